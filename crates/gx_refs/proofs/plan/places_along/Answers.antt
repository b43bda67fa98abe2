use Rattle.gx_refs.proofs.PlanLemmas.{place_more}
use Rattle.gx_refs.proofs.plan.places_along.Goals as goal

pub loop-name-preserved : goal.loop-name-preserved
loop-name-preserved c =
    rw c.in_ok-push.ensures.items (place_more c.args.space.now c.args.names.now c.loop-name.places.items c.loop-name.name-index c.name-item.result c.in_ok-place_of.field-0 c.loop-name-test.true c.name-item.is c.loop-name.invariant c.in_ok-place_of.ensures.name c.in_ok-place_of.ensures.shown)
