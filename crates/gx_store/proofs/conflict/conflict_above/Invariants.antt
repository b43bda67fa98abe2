use Rattle.gx_store.specs.Slots.{refs_of}
use Rattle.gx_store.proofs.ConflictLemmas.{NoneAbove}
use Rattle.gx_store.proofs.conflict.conflict_above.Given as goal

-- no shorter prefix has a target
abbrev pub invariant-loop-at : goal.invariant-loop-at
invariant-loop-at l = NoneAbove (refs_of l.map).targets l.name l.at
