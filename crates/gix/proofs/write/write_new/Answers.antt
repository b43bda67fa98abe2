use Rattle.std.proofs.Common.{◌∙◌, ap, sym}
use Rattle.std.proofs.lemmas.Result.{err_from_is_err_and}
use Rattle.gx_store.specs.State.{StoreState}
use Rattle.gix.specs.CommitRequest.{asked}
use Rattle.gix.proofs.WriteLemmas.{trees_begun, blobs_grow, trees_grow, brought_stored, commit_written, commit_begun}
use Rattle.gix.proofs.write.write_new.Goals as goal

pub store-requires : goal.store-requires
store-requires g c =
    let kept = ap (λ (v : StoreState). v.hash) c.in_ok-write_blobs.ensures.ok.same in
    c.requires.trees ∙ sym kept

pub returns-in_err-write_blobs-clause-err : goal.returns-in_err-write_blobs-clause-err
returns-in_err-write_blobs-clause-err g c =
    let s = g.S.Meanings.state c.args.store.now in
    let p = err_from_is_err_and c.from_residual.result c.from_residual.ensures.1 in
    rw p.1 (blobs_grow (asked c.args.request.now) s c.args.objects.now.trees c.in_err-write_blobs.ensures.err.0 (g.S.Meanings.state c.write_blobs.new.store) c.in_err-write_blobs.ensures.err.2)

pub returns-in_err-store-clause-err : goal.returns-in_err-store-clause-err
returns-in_err-store-clause-err g c =
    let s = g.S.Meanings.state c.args.store.now in
    let t = g.S.Meanings.state c.write_blobs.new.store in
    let u = g.S.Meanings.state c.store.new.store in
    let p = err_from_is_err_and c.from_residual-in_err-store.result c.from_residual-in_err-store.ensures.1 in
    let n = c.in_err-store.ensures.leaves in
    rw p.1 (trees_grow (asked c.args.request.now) s c.args.objects.now.trees t u c.in_ok-write_blobs.ensures.ok (trees_begun t u c.args.objects.now.trees n.0 n.2))

pub returns-clause-ok : goal.returns-clause-ok
returns-clause-ok g c =
    let s = g.S.Meanings.state c.args.store.now in
    let t = g.S.Meanings.state c.write_blobs.new.store in
    let u = g.S.Meanings.state c.store.new.store in
    commit_written (asked c.args.request.now) s c.args.objects.now.trees c.write.result u _ _ c.as_slice.result.now (c.as_slice.ensures ∙ c.requires.commit) c.requires.is_id
    (brought_stored (asked c.args.request.now) s c.args.objects.now.trees t u c.in_ok-write_blobs.ensures.ok c.in_ok-store.ensures.ok) c.write.ensures.ok

pub returns-clause-err : goal.returns-clause-err
returns-clause-err g c =
    let s = g.S.Meanings.state c.args.store.now in
    let t = g.S.Meanings.state c.write_blobs.new.store in
    let u = g.S.Meanings.state c.store.new.store in
    commit_begun (asked c.args.request.now) s c.args.objects.now.trees c.write.result u _
    (brought_stored (asked c.args.request.now) s c.args.objects.now.trees t u c.in_ok-write_blobs.ensures.ok c.in_ok-store.ensures.ok) c.write.ensures.err
