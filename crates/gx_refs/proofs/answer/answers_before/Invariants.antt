use Rattle.std.proofs.Common.{◌≡◌, ◌++◌, ◌∷◌, drop}
use Rattle.gx_refs.specs.Answering.{answers_before}
use Rattle.gx_refs.proofs.answer.answers_before.Given as goal

-- the answer so far, and that from the place on
abbrev pub invariant-loop-next : goal.invariant-loop-next
invariant-loop-next l = l.edits.items ++ answers_before l.change (l.place ∷ drop l.next-index l.more) l.end ≡ answers_before l.change l.places l.end
