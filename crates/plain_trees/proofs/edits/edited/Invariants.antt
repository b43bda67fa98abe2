use Rattle.std.proofs.Common.{◌≡◌, take}
use Rattle.gx_edit.specs.PathMap.{edited, no_paths}
use Rattle.plain_trees.proofs.edits.edited.Given as goal

-- the leaf is that after the first edits
abbrev pub invariant-loop-edit : goal.invariant-loop-edit
invariant-loop-edit l = l.leaf ≡ edited l.hash no_paths (take l.edit-index l.edits) l.path
