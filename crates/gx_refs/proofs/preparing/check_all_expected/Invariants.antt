use Rattle.std.proofs.Common.{take}
use Rattle.gx_refs.specs.EditCauses.{AreMet}
use Rattle.gx_refs.proofs.preparing.check_all_expected.Given as goal

-- the edits so far find what they expect
abbrev pub invariant-loop-plan : goal.invariant-loop-plan
invariant-loop-plan l = AreMet l.space (take l.plan-index l.plans)
