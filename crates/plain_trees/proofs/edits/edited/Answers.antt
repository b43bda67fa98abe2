use Rattle.plain_trees.proofs.PlainLemmas.{edits_more}
use Rattle.plain_trees.proofs.edits.edited.Goals as goal

pub loop-edit-preserved : goal.loop-edit-preserved
loop-edit-preserved c =
    edits_more c.args.hash c.args.edits.now c.loop-edit.edit-index c.edit-item.result c.args.path.now c.loop-edit.leaf c.in_ok-leaf.leaf c.loop-edit-test.true c.edit-item.is c.loop-edit.invariant c.in_ok-leaf.ensures
