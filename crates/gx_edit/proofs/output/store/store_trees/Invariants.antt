use Rattle.std.proofs.Common.{take}
use Rattle.gx_store.specs.State.{Becomes, all_stored}
use Rattle.gx_edit.specs.Planning.{objects_of}
use Rattle.gx_edit.proofs.output.store.store_trees.Given as goal

-- the first trees are stored
abbrev pub invariant-loop-tree : goal.invariant-loop-tree
invariant-loop-tree g l = Becomes (all_stored (take l.tree-index (objects_of l.trees)) (g.S.Meanings.state l.fn.store)) (g.S.Meanings.state l.store)
