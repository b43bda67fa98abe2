use Rattle.std.proofs.Common.{◌≡◌, true, take}
use Rattle.std.specs.List.{AllByRecursion}
use Rattle.gx_refs.specs.Plan.{makes}
use Rattle.gx_refs.specs.Seen.{HasRoomAbove}
use Rattle.gx_refs.proofs.conflicts.check_room.Given as goal

-- the names that the edits so far make have room
abbrev pub invariant-loop-plan : goal.invariant-loop-plan
invariant-loop-plan g l = AllByRecursion (λ plan. makes plan ≡ true → HasRoomAbove (g.S.Meanings.state l.store).references l.made plan) (take l.plan-index l.plans)
