use Rattle.std.proofs.Common.{◌≡◌, take}
use Rattle.gx_refs.specs.Answering.{answers}
use Rattle.gx_refs.proofs.answer.answers.Given as goal

-- the answer of the edits so far
abbrev pub invariant-loop-plan : goal.invariant-loop-plan
invariant-loop-plan l = l.edits.items ≡ answers (take l.plan-index l.plans)
