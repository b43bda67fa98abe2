use Rattle.std.proofs.Common.{◌≡◌, ◌++◌, drop}
use Rattle.std.specs.Io.{StartsWith}
use Rattle.gx_object.specs.Tree.{tree_bytes}
use Rattle.gx_object.proofs.tree.write.push_tree.Given as goal

-- what is written and what is left to write are the whole, and what was there is in front
abbrev pub invariant-loop-entry : goal.invariant-loop-entry
invariant-loop-entry l =
    (l.out.items ++ tree_bytes (drop l.entry-index l.entries) ≡ l.fn.out.items ++ tree_bytes l.entries)
    × StartsWith l.out.items l.fn.out.items
