use Rattle.gx_refs.proofs.ChangeLemmas.{change_more, signed_more, kinds_more}
use Rattle.gx_refs.proofs.changes.changes_at.Goals as goal

pub loop-place-preserved : goal.loop-place-preserved
loop-place-preserved g c = (
  rw c.in_ok-push.ensures.items (change_more (g.S.Meanings.state c.args.store.now).references c.args.terms.now c.args.plan.now c.args.places.now c.loop-place.place-index c.place-item.result c.loop-place.changes.items c.in_ok-change_at.field-0 c.loop-place-test.true c.place-item.is c.loop-place.invariant.0 c.in_ok-change_at.ensures.ok),
  signed_more (g.S.Meanings.state c.args.store.now).references c.args.terms.now c.args.plan.now c.args.places.now c.loop-place.place-index c.place-item.result c.loop-place-test.true c.place-item.is c.loop-place.invariant.1 c.in_ok-change_at.ensures.signed,
  λ hash k. rw c.in_ok-push.ensures.items (kinds_more hash c.loop-place.changes.items c.in_ok-change_at.field-0 (c.loop-place.invariant.2 hash k) (c.in_ok-change_at.ensures.kind hash k)),
)
