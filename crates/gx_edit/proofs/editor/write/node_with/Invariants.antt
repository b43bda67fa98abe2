use Rattle.std.proofs.Common.{◌≡◌, ◌++◌, List}
use Rattle.std.specs.FinMap as fin
use Rattle.gx_object.specs.declared.tree.Entry.{Entry}
use Rattle.gx_edit.specs.Nodes.{place_of}
use Rattle.gx_edit.specs.View.{names_of}
use Rattle.gx_edit.proofs.editor.write.node_with.Given as goal

-- the last entries are in
abbrev pub invariant-loop-row : goal.invariant-loop-row
invariant-loop-row l = record {
  last : List Entry;
  split : l.rows ≡ l.row-iterator.iter.rest.now ++ last;
  is : place_of l.node ≡ record { names = names_of last; inner = fin.empty };
}
