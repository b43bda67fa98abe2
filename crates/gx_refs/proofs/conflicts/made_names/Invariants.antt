use Rattle.std.proofs.Common.{take}
use Rattle.gx_refs.specs.Seen.{HasMade}
use Rattle.gx_refs.proofs.conflicts.made_names.Given as goal

-- the names that the edits so far make
abbrev pub invariant-loop-plan : goal.invariant-loop-plan
invariant-loop-plan l = HasMade l.made (take l.plan-index l.plans)
