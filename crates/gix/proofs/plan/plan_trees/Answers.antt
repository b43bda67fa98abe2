use Rattle.std.proofs.Common.{◌∙◌, sym, ap, subst}
use Rattle.gx_hash.specs.ObjectIds.{has_id}
use Rattle.gix.specs.CommitRequest.{asked}
use Rattle.gix.specs.Stages.{StageCauses}
use Rattle.gix.proofs.TreeLemmas.{plan_refused, trees_found, trees_refused}
use Rattle.gix.proofs.plan.plan_trees.Goals as goal

pub returns-in-Err-clause-err : goal.returns-in-Err-clause-err
returns-in-Err-clause-err g c =
    let s = g.S.Meanings.state c.args.store.now in
    subst (StageCauses c.args.settings.now (asked c.args.request.now) s) (sym c.lifted.ensures) (plan_refused c.args.settings.now (asked c.args.request.now) s c.args.edited.now c.requires c.in-Err.refusal c.in-Err.ensures.causes)

pub returns-in-Ok-check-clause-ok : goal.returns-in-Ok-check-clause-ok
returns-in-Ok-check-clause-ok g c =
    let s = g.S.Meanings.state c.args.store.now in
    trees_found c.args.settings.now (asked c.args.request.now) s c.args.edited.now c.requires c.in-Ok.trees c.in-Ok.ensures.ok
    c.in_ok-blobs.blobs (λ id. c.in_ok-blobs.ensures id ∙ ap (λ l. has_id l id) c.deref.ensures.value) c.in-Ok.ensures.spelled c.in-Ok-check.ensures.ok

pub returns-clause-err : goal.returns-clause-err
returns-clause-err g c =
    let s = g.S.Meanings.state c.args.store.now in
    subst (StageCauses c.args.settings.now (asked c.args.request.now) s) (sym c.lifted-in-Err-check.ensures)
    (trees_refused c.args.settings.now (asked c.args.request.now) s c.args.edited.now c.requires c.in-Ok.trees c.in-Ok.ensures.ok
    c.in_ok-blobs.blobs (λ id. c.in_ok-blobs.ensures id ∙ ap (λ l. has_id l id) c.deref.ensures.value) c.in-Err-check.refusal c.in-Err-check.ensures.causes)
