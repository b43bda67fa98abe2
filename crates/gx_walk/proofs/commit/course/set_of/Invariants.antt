use Rattle.std.proofs.Common.{◌≡◌, take}
use Rattle.gx_hash.specs.declared.oid.ObjectId.{ObjectId}
use Rattle.gx_hash.specs.ObjectIds.{has_id}
use Rattle.gx_walk.proofs.commit.course.set_of.Given as goal

abbrev pub invariant-loop-id : goal.invariant-loop-id
invariant-loop-id l = (one : ObjectId) → has_id l.set one ≡ has_id (take l.id-index l.ids) one
