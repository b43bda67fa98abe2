use Rattle.gx_refs.proofs.ChangeLemmas.{change_of_kind}
use Rattle.gx_refs.proofs.changes.change_at.Goals as goal

pub returns-clause-kind : goal.returns-clause-kind
returns-clause-kind g c = λ hash k.
    change_of_kind hash c.args.terms.now (record { plan = c.args.plan.now; place = c.args.place.now }) c.in_ok-target_change.field-0 c.in_ok-log.log
    c.in_ok-target_change.ensures k (c.in_ok-log.ensures.kind hash k)
