-- Sets of ids that are kept in order.
use Rattle.std.proofs.Common.{◌≡◌, ◌∙◌, sym, ap, refl, Bool, true, false, ◌||◌, cond, List}
use Rattle.std.specs.List.{list_any}
use Rattle.std.specs.Ordering.{is_eq}
use Rattle.std.specs.BTreeMap.{is_at}
use Rattle.std.specs.Cmp.{eq_by_cmp_equiv}
use Rattle.gx_hash.specs.ObjectIds.{id_eq, derived_cmp, has_id}
use Rattle.gx_hash.specs.declared.oid.ObjectId.{ObjectId}
use Rattle.gx_hash.specs.Laws.IdCmp.{id_cmp_total}
use Rattle.gx_hash.specs.Laws.IdOrder.{derived_cmp-id_cmp}
use Rattle.gx_hash.specs.Laws.IdEquality.{ids_tied}

-- what a set that is kept in the derived order finds at an id
at_id : (id one : ObjectId) → is_at (derived_cmp id) one ≡ id_eq id one
at_id id one = ap (λ R. is_eq (R id one)) derived_cmp-id_cmp ∙ sym (ids_tied id one)

-- such a set has an id where the list of its keys does
pub found_is : (keys : List ObjectId) (id : ObjectId) → list_any (is_at (derived_cmp id)) keys ≡ has_id keys id
found_is keys id = λ i. list_any (λ one. test one i) keys
  where
    test : (one : ObjectId) → is_at (derived_cmp id) one ≡ id_eq one id
    test one = ap (λ R. is_eq (R id one)) derived_cmp-id_cmp ∙ (eq_by_cmp_equiv id_cmp_total).symm id one ∙ sym (ids_tied one id)

either : (b c : Bool) → cond b true c ≡ (b || c)
either true c = refl
either false c = refl

-- an id that is inserted is there, and the others as before
pub inserted_id : (old new : List ObjectId) (id : ObjectId)
    → ((q : ObjectId) → list_any (is_at (derived_cmp q)) new ≡ cond (is_at (derived_cmp id) q) true (list_any (is_at (derived_cmp q)) old))
    → (one : ObjectId) → has_id new one ≡ (id_eq id one || has_id old one)
inserted_id old new id h one =
    sym (found_is new one) ∙ h one ∙ ap (λ b. cond b true (list_any (is_at (derived_cmp one)) old)) (at_id id one)
    ∙ ap (cond (id_eq id one) true) (found_is old one) ∙ either (id_eq id one) (has_id old one)
