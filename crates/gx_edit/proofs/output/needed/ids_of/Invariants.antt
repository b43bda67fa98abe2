use Rattle.std.proofs.Common.{◌≡◌, ◌||◌, drop}
use Rattle.gx_hash.specs.declared.oid.ObjectId.{ObjectId}
use Rattle.gx_hash.specs.ObjectIds.{has_id}
use Rattle.gx_edit.proofs.NeededLemmas.{ids_in}
use Rattle.gx_edit.proofs.output.needed.ids_of.Given as goal

abbrev pub invariant-loop-tree : goal.invariant-loop-tree
invariant-loop-tree l = (id : ObjectId) → (has_id (ids_in (drop l.tree-index l.trees)) id || has_id l.ids id) ≡ has_id (ids_in l.trees) id
