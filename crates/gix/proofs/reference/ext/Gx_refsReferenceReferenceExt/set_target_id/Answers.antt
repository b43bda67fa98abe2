use Rattle.std.proofs.Common.{sym, subst, Err}
use Rattle.std.proofs.lemmas.Result.{err_from_is_err_and}
use Rattle.gx_store.specs.declared.target.Target.TheVariants as target
use Rattle.gx_refs.specs.declared.edit.PreviousValue.TheVariants.{MustExistAndMatch}
use Rattle.gix.specs.Meaning.{Means}
use Rattle.gix.specs.OneEdit.{reference_meaning}
use Rattle.gix.specs.Repository.{held_by}
use Rattle.gix.proofs.SetTargetLemmas.{is_id, set_err}
use Rattle.gix.proofs.reference.ext.Gx_refsReferenceReferenceExt.set_target_id.Goals as goal

pub returns-in_err-moved-clause-means : goal.returns-in_err-moved-clause-means
returns-in_err-moved-clause-means g c =
    let p = err_from_is_err_and c.from_residual-in_err-moved.result c.from_residual-in_err-moved.ensures.1 in
    let reference = c.args.self.now in
    let e = c.in_err-moved.field-0.0 in
    let old = held_by g.S.Meanings.state c.args.repo.now in
    let new = held_by g.S.Meanings.state c.reference.new.self in
    let met = subst (λ r. Means (reference_meaning reference.name c.args.id (MustExistAndMatch (target.Object c.in-Object.current)) c.args.message.now) old r new) c.in_err-moved.was c.reference.ensures in
    let expecting = subst (λ t. Means (reference_meaning reference.name c.args.id (MustExistAndMatch t) c.args.message.now) old (Err e) new) (sym c.in-Object.is) met in
    rw (p.1, p.2) (set_err reference c.args.id c.args.message.now old new e (is_id reference c.in-Object.current c.in-Object.is) expecting)
