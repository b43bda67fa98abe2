use Rattle.std.proofs.lemmas.Result.{err_from_is_err_and}
use Rattle.std.proofs.Common.{arith, subst, take}
use Rattle.std.specs.List.{flat_map, AllByRecursion}
use Rattle.std.proofs.lemmas.List.{take_all}
use Rattle.gx_refs.specs.Chain.{AreDistinct}
use Rattle.gx_refs.specs.Plan.{touched_names}
use Rattle.gx_refs.specs.Seen.{HasSeen, AreNew, passed_names}
use Rattle.gx_refs.proofs.SeenLemmas.{share_none, way_distinct, touched_apart, touched_twice, passed_twice}
use Rattle.gx_refs.proofs.shared.check_shared.Goals as goal

pub returns-clause-apart : goal.returns-clause-apart
returns-clause-apart c =
    let plans = c.args.plans.now in
    share_none plans
    (subst (λ ps. AreDistinct (flat_map touched_names ps)) (take_all c.loop-plan.plan-index plans (omega arith)) c.loop-plan.invariant.distinct)
    (subst (λ ps. AllByRecursion (λ plan. AreNew (flat_map touched_names plans) (passed_names plan)) ps) (take_all c.loop-passing.passing-index plans (omega arith)) c.loop-passing.invariant)

pub returns-clause-distinct : goal.returns-clause-distinct
returns-clause-distinct c =
    subst (λ ps. AreDistinct (flat_map touched_names ps)) (take_all c.loop-plan.plan-index c.args.plans.now (omega arith)) c.loop-plan.invariant.distinct

pub returns-in_err-see_touched-clause-causes : goal.returns-in_err-see_touched-clause-causes
returns-in_err-see_touched-clause-causes c = λ d.
    let plans = c.args.plans.now in
    let i = c.loop-plan.plan-index in
    let plan = c.plan-item.result in
    let p = err_from_is_err_and c.from_residual.result c.from_residual.ensures.1 in
    let way = way_distinct plans i plan c.loop-plan-test.true c.plan-item.is d in
    rw (p.1, p.2) (touched_twice plans i plan c.in_err-see_touched.field-0.0 c.loop-plan-test.true c.plan-item.is
    (c.in_err-see_touched.ensures.causes (flat_map touched_names (take i plans)) c.loop-plan.invariant (touched_apart plan plan.edit.change way)))

pub returns-in_err-check_passed-clause-causes : goal.returns-in_err-check_passed-clause-causes
returns-in_err-check_passed-clause-causes c = λ d.
    let plans = c.args.plans.now in
    let i = c.loop-passing.passing-index in
    let plan = c.passing-item.result in
    let p = err_from_is_err_and c.from_residual-in_err-check_passed.result c.from_residual-in_err-check_passed.ensures.1 in
    let way = way_distinct plans i plan c.loop-passing-test.true c.passing-item.is d in
    let seen = subst (λ ps. HasSeen c.loop-plan.seen (flat_map touched_names ps)) (take_all c.loop-plan.plan-index plans (omega arith)) c.loop-plan.invariant in
    rw (p.1, p.2) (passed_twice plans i plan c.in_err-check_passed.field-0.0 c.loop-passing-test.true c.passing-item.is way
    (c.in_err-check_passed.ensures.causes (flat_map touched_names plans) seen))
