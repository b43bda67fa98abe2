use Rattle.std.proofs.Common.{◌≡◌, take}
use Rattle.gx_hash.specs.declared.oid.ObjectId.{ObjectId}
use Rattle.gx_hash.specs.ObjectIds.{has_id}
use Rattle.gx_walk.specs.Best.{has_child}
use Rattle.gx_walk.specs.Graph.{history_in}
use Rattle.gx_walk.proofs.bases.best.mark.Given as goal

abbrev pub invariant-loop-id : goal.invariant-loop-id
invariant-loop-id l = (q : ObjectId)
    → has_id l.marked q ≡ has_child (history_in l.graph) (has_id l.shallow) (take l.id-index l.ids) q
