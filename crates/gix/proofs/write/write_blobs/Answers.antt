use Rattle.std.proofs.Common.{◌+◌, ◌++◌, ◌∷◌, [], ◌∙◌, drop, sym, ap, List}
use Rattle.gx_hash.specs.declared.oid.ObjectId.{ObjectId}
use Rattle.gx_store.specs.State.{StoreState}
use Rattle.gix.specs.Stages.{blob_ids}
use Rattle.gix.proofs.WriteLemmas.{ids_ahead, blobs_more}
use Rattle.gix.proofs.write.write_blobs.Goals as goal

pub write_blob-requires : goal.write_blob-requires
write_blob-requires g c =
    let s = g.S.Meanings.state c.args.store.now in
    let more : List ObjectId = blob_ids s.hash (drop (c.loop-edit.edit-index + 1) c.args.edits.now) in
    let kept = ap (λ (u : StoreState). u.hash) c.loop-edit.invariant.stored.same in
    (more, c.loop-edit.invariant.left ∙ ids_ahead s.hash c.args.edits.now c.loop-edit.edit-index c.edit-item.result c.loop-edit-test.true c.edit-item.is ∙ ap (λ h. blob_ids h (c.edit-item.result ∷ []) ++ more) (sym kept))

pub loop-edit-preserved : goal.loop-edit-preserved
loop-edit-preserved g c =
    let s = g.S.Meanings.state c.args.store.now in
    let more : List ObjectId = blob_ids s.hash (drop (c.loop-edit.edit-index + 1) c.args.edits.now) in
    let kept = ap (λ (u : StoreState). u.hash) c.loop-edit.invariant.stored.same in
    record {
      left = c.in_ok-rest.ensures.rest more (c.loop-edit.invariant.left ∙ ids_ahead s.hash c.args.edits.now c.loop-edit.edit-index c.edit-item.result c.loop-edit-test.true c.edit-item.is ∙ ap (λ h. blob_ids h (c.edit-item.result ∷ []) ++ more) (sym kept));
      stored = blobs_more c.args.edits.now c.loop-edit.edit-index c.edit-item.result s _ _ c.loop-edit-test.true c.edit-item.is c.loop-edit.invariant.stored c.in_ok-rest.ensures.ok;
    }
