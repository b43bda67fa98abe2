use Rattle.std.proofs.Common.{◌≡◌, ◌++◌, List, vec_len}
use Rattle.std.specs.FinMap as fin
use Rattle.gx_object.specs.declared.tree.Entry.{Entry}
use Rattle.gx_edit.specs.Nodes.{place_of}
use Rattle.gx_edit.specs.View.{names_of}
use Rattle.gx_edit.proofs.editor.load.node_of.Given as goal

-- the last entries are in
abbrev pub invariant-loop-entry : goal.invariant-loop-entry
invariant-loop-entry l = record {
  rest : List Entry;
  split : l.fn.tree.entries ≡ l.entries.items ++ rest;
  is : place_of l.node ≡ record { names = names_of rest; inner = fin.empty };
}

abbrev pub decreases-loop-entry : goal.decreases-loop-entry
decreases-loop-entry l = vec_len l.entries
