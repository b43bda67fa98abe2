use Rattle.gx_edit.proofs.NeededLemmas.{one_more}
use Rattle.gx_edit.proofs.output.needed.ids_of.Goals as goal

pub loop-tree-preserved : goal.loop-tree-preserved
loop-tree-preserved c = one_more c.args.trees.now c.loop-tree.tree-index c.tree-item.result c.loop-tree.ids _ c.loop-tree-test.true c.tree-item.is c.loop-tree.invariant c.in_ok-insert.ensures.ok
