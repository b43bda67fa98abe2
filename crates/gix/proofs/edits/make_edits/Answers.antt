use Rattle.std.proofs.Common.{refl, arith}
use Rattle.gx_edit.specs.Editor.{view_of as directories_of}
use Rattle.gix.proofs.EditLemmas.{edits_more, edit_refused, all_edited}
use Rattle.gix.proofs.edits.make_edits.Goals as goal

pub returns-in-Err-clause-err : goal.returns-in-Err-clause-err
returns-in-Err-clause-err g c =
    let s = g.S.Meanings.state c.args.store.now in
    edit_refused s (directories_of c.args.base) c.args.edits.now c.loop-edit.edit-index c.edit-item.result c.loop-edit.editor c.loop-edit.blobs.items c.loop-edit-test.true c.edit-item.is c.loop-edit.invariant
    c.in-Err.refusal c.refused.result c.in-Err.ensures.err c.refused.ensures

pub loop-edit-preserved : goal.loop-edit-preserved
loop-edit-preserved g c =
    let s = g.S.Meanings.state c.args.store.now in
    edits_more s (directories_of c.args.base) c.args.edits.now c.loop-edit.edit-index c.edit-item.result c.loop-edit.editor c.loop-edit.blobs.items c.loop-edit-test.true c.edit-item.is c.loop-edit.invariant
    c.make_edit.new.editor c.make_edit.new.blobs.items c.make_edit.ensures.kind c.in_default.ensures.named c.in_default.ensures.made c.in_default.ensures.blobs

pub returns-clause-ok : goal.returns-clause-ok
returns-clause-ok g c =
    let s = g.S.Meanings.state c.args.store.now in
    let stop = c.loop-edit-test.false in
    all_edited s (directories_of c.args.base) c.args.edits.now c.loop-edit.edit-index c.loop-edit.editor c.loop-edit.blobs.items _ (omega (arith, stop)) refl refl c.loop-edit.invariant
