use Rattle.std.proofs.lemmas.Result.{err_from_is_err_and}
use Rattle.gix.specs.CommitRequest.{asked}
use Rattle.gix.proofs.CommitLemmas.{causes_torn, commits, leaves_begun, leaves_torn, made_as_one}
use Rattle.gix.proofs.commit_edits.commit_request.Goals as goal

pub of_reference-requires : goal.of_reference-requires
of_reference-requires g c = made_as_one c.args.settings.now (asked c.args.request.now) _ _ _ c.in_ok-plan.plan c.in_ok-plan.ensures.ok c.in_ok-write_new.ensures.ok c.in-Err.refusal c.in-Err.ensures.causes

pub returns-in-Ok-clause-ok : goal.returns-in-Ok-clause-ok
returns-in-Ok-clause-ok g c = commits c.args.settings.now (asked c.args.request.now) _ _ _ c.in_ok-plan.plan c.in_ok-plan.ensures.ok c.in_ok-write_new.ensures.ok c.in-Ok.ensures.ok.1

pub returns-clause-leaves : goal.returns-clause-leaves
returns-clause-leaves g c = rw c.of_reference.ensures (leaves_torn c.args.settings.now (asked c.args.request.now) _ _ _ c.in_ok-plan.plan c.in_ok-plan.ensures.ok c.in_ok-write_new.ensures.ok c.in-Err.refusal c.in-Err.ensures.causes)

pub returns-clause-causes : goal.returns-clause-causes
returns-clause-causes g c = rw c.of_reference.ensures (causes_torn c.args.settings.now (asked c.args.request.now) _ _ _ c.in_ok-plan.plan c.in_ok-plan.ensures.ok c.in_ok-write_new.ensures.ok c.in-Err.refusal c.in-Err.ensures.causes)

pub returns-in_err-write_new-clause-leaves : goal.returns-in_err-write_new-clause-leaves
returns-in_err-write_new-clause-leaves g c =
    let p = err_from_is_err_and c.from_residual-in_err-write_new.result c.from_residual-in_err-write_new.ensures.1 in
    rw (p.1, p.2) (leaves_begun c.args.settings.now (asked c.args.request.now) _ _ c.in_ok-plan.plan c.in_ok-plan.ensures.ok c.in_err-write_new.field-0.0 c.in_err-write_new.ensures.err c.in_err-write_new.ensures.fault)
