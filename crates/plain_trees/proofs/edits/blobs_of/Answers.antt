use Rattle.plain_trees.proofs.PlainLemmas.{blobs_more}
use Rattle.plain_trees.proofs.edits.blobs_of.Goals as goal

pub loop-edit-preserved : goal.loop-edit-preserved
loop-edit-preserved c =
    blobs_more c.args.edits.now c.loop-edit.edit-index c.edit-item.result c.loop-edit.blobs.items c.push_blobs_in.new.blobs.items c.loop-edit-test.true c.edit-item.is c.loop-edit.invariant c.in_ok-push_blobs_in.ensures
