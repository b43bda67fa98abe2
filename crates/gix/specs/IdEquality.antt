-- What equality, order and hash of ids owe to those of types that hold an id.
use Rattle.std.specs.Prelude.{◌≡◌, true}
use Rattle.std.proofs.Common.{ap, refl, subst, sym}
use Rattle.std.specs.Cmp.{IsEquivalence, IsPartialOrder, eq_by_cmp_equiv, partial_order_from_agreeing_total}
use Rattle.std.specs.Ordering.{as_partial_cmp}
use Rattle.gx_hash.specs.declared.oid.ObjectId.{ObjectId}
use Rattle.gx_hash.specs.contracts.oid.ObjectIdHash.TheImpl as object_id_hash
use Rattle.gx_hash.specs.ObjectId.{id_cmp}
use Rattle.gx_hash.specs.ObjectIds.{id_eq}
use Rattle.gx_hash.specs.Laws.{id_cmp_total, id_eq-id_cmp, same_id}

-- equality of ids is an equivalence
pub id_equivalence : IsEquivalence id_eq
id_equivalence = subst IsEquivalence (λ i a b. sym (id_eq-id_cmp a b) i) (eq_by_cmp_equiv id_cmp_total)

-- their order is a partial order that ties equal ids
pub id_partial_order : IsPartialOrder id_eq (as_partial_cmp id_cmp)
id_partial_order = partial_order_from_agreeing_total id_cmp id_cmp_total (λ a b. refl) id_eq-id_cmp

-- equal ids feed a hasher the same
pub hash_respects : (a b : ObjectId) → id_eq a b ≡ true
    → (object_id_hash.ghosts).hash_input a ≡ (object_id_hash.ghosts).hash_input b
hash_respects a b e = ap (object_id_hash.ghosts).hash_input (same_id a b e)
