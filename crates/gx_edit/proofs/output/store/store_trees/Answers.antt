use Rattle.gx_edit.proofs.StoringLemmas.{tree_more, none_stored}
use Rattle.gx_edit.proofs.output.store.store_trees.Goals as goal

pub loop-tree-init : goal.loop-tree-init
loop-tree-init g c = none_stored _

pub loop-tree-preserved : goal.loop-tree-preserved
loop-tree-preserved g c =
    tree_more c.after.ensures.stored c.args.trees.now c.loop-tree.tree-index c.tree-item.result c.as_slice.result.now _ _ _ c.requires c.loop-tree-test.true c.tree-item.is c.as_slice.ensures c.loop-tree.invariant c.in_ok-write.ensures.ok
