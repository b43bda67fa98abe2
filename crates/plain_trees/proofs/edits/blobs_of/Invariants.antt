use Rattle.std.proofs.Common.{◌≡◌, take}
use Rattle.gx_edit.specs.PathMap.{blobs_of}
use Rattle.plain_trees.proofs.edits.blobs_of.Given as goal

-- the blobs of the first edits
abbrev pub invariant-loop-edit : goal.invariant-loop-edit
invariant-loop-edit l = l.blobs.items ≡ blobs_of (take l.edit-index l.edits)
