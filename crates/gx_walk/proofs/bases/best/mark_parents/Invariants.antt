use Rattle.std.proofs.Common.{◌≡◌, take, not}
use Rattle.std.specs.Prelude.{◌&&◌, ◌||◌}
use Rattle.gx_hash.specs.declared.oid.ObjectId.{ObjectId}
use Rattle.gx_hash.specs.ObjectIds.{id_eq, has_id}
use Rattle.gx_walk.proofs.bases.best.mark_parents.Given as goal

abbrev pub invariant-loop-parent : goal.invariant-loop-parent
invariant-loop-parent l = (q : ObjectId)
    → has_id l.marked q ≡ (has_id l.initial.marked q || (not (id_eq l.id q) && has_id (take l.parent-index l.parents) q))
