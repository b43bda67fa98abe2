use Rattle.gx_refs.specs.Changing.{IsChangeOfKind, IsPlanOfKind}
use Rattle.gx_refs.proofs.ChangeLemmas.{plan_more, plan_signed, all_joined, all_at}
use Rattle.gx_refs.proofs.changes.all_changes.Goals as goal

pub loop-plan-preserved : goal.loop-plan-preserved
loop-plan-preserved g c = (
  rw c.in_ok-append.ensures.items (plan_more (g.S.Meanings.state c.args.store.now).references c.args.terms.now c.args.plans.now c.loop-plan.plan-index c.plan-item.result c.loop-plan.changes.items c.in_ok-changes_of.field-0.items c.loop-plan-test.true c.plan-item.is c.loop-plan.invariant.0 c.in_ok-changes_of.ensures.ok),
  plan_signed (g.S.Meanings.state c.args.store.now).references c.args.terms.now c.args.plans.now c.loop-plan.plan-index c.plan-item.result c.loop-plan-test.true c.plan-item.is c.loop-plan.invariant.1 c.in_ok-changes_of.ensures.signed,
  λ hash k. rw c.in_ok-append.ensures.items (all_joined (IsChangeOfKind hash) c.loop-plan.changes.items c.in_ok-changes_of.field-0.items (c.loop-plan.invariant.2 hash k) (c.in_ok-changes_of.ensures.kind hash (all_at (IsPlanOfKind hash) c.args.plans.now c.loop-plan.plan-index c.plan-item.result c.loop-plan-test.true c.plan-item.is k))),
)
