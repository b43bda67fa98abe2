use Rattle.std.proofs.lemmas.Result.{err_from_is_err_and}
use Rattle.gix.specs.CommitRequest.{asked}
use Rattle.gix.proofs.EditLemmas.{edited_by, edits_refused}
use Rattle.gix.proofs.plan.edit_base.Goals as goal

pub returns-in_err-base-clause-err : goal.returns-in_err-base-clause-err
returns-in_err-base-clause-err g c = λ settings.
    let p = err_from_is_err_and c.from_residual.result c.from_residual.ensures.1 in
    rw (p.1, p.2) (c.in_err-base.ensures.err settings)

pub returns-clause-ok : goal.returns-clause-ok
returns-clause-ok g c =
    let s = g.S.Meanings.state c.args.store.now in
    edited_by (asked c.args.request.now) s c.in_ok-base.base c.in_ok-base.ensures.ok c.make_edits.result c.make_edits.ensures.ok

pub returns-clause-err : goal.returns-clause-err
returns-clause-err g c = λ settings.
    let s = g.S.Meanings.state c.args.store.now in
    edits_refused settings (asked c.args.request.now) s c.in_ok-base.base c.in_ok-base.ensures.ok c.make_edits.result c.make_edits.ensures.err
