use Rattle.std.proofs.Common.{take}
use Rattle.std.specs.List.{flat_map, AllByRecursion}
use Rattle.gx_refs.specs.Plan.{touched_names}
use Rattle.gx_refs.specs.Seen.{HasSeen, AreNew, passed_names}
use Rattle.gx_refs.proofs.shared.check_shared.Given as goal

-- what the edits so far touch was seen
abbrev pub invariant-loop-plan : goal.invariant-loop-plan
invariant-loop-plan l = HasSeen l.seen (flat_map touched_names (take l.plan-index l.plans))

-- what they pass was not
abbrev pub invariant-loop-passing : goal.invariant-loop-passing
invariant-loop-passing l = AllByRecursion (λ plan. AreNew (flat_map touched_names l.plans) (passed_names plan)) (take l.passing-index l.plans)
