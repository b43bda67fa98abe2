use Rattle.std.proofs.Common.{◌≡◌, ◌||◌, drop}
use Rattle.gx_hash.specs.declared.oid.ObjectId.{ObjectId}
use Rattle.gx_hash.specs.ObjectIds.{has_id}
use Rattle.gix.proofs.plan.ids_of.Given as goal

abbrev pub invariant-loop-id : goal.invariant-loop-id
invariant-loop-id l = (one : ObjectId) → (has_id (drop l.id-index l.ids) one || has_id l.set one) ≡ has_id l.ids one
