use Rattle.std.proofs.Common.{◌≡◌, true, arith, subst}
use Rattle.std.specs.List.{AllByRecursion}
use Rattle.std.proofs.lemmas.List.{take_all}
use Rattle.gx_refs.specs.Plan.{makes}
use Rattle.gx_refs.specs.Seen.{HasRoomAbove}
use Rattle.gx_refs.proofs.RoomLemmas.{have_room}
use Rattle.gx_refs.proofs.conflicts.check_room.Goals as goal

pub returns-clause-room : goal.returns-clause-room
returns-clause-room g c =
    let told = (g.S.Meanings.state c.args.store.now).references in
    have_room told c.in_ok-made.made c.args.plans.now c.in_ok-made.ensures
    (subst (AllByRecursion (λ plan. makes plan ≡ true → HasRoomAbove told c.in_ok-made.made plan)) (take_all c.loop-plan.plan-index c.args.plans.now (omega arith)) c.loop-plan.invariant)
