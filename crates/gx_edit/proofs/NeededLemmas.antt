-- What entries name outside of the ids of trees.
use Rattle.std.proofs.Common.{◌≡◌, ◌∙◌, sym, ap, refl, Bool, true, false, ◌||◌, List, ◌∷◌, map, ℕ, ◌<◌, ◌+◌, drop, length, get_or, drop-cons, add-one}
use Rattle.gx_hash.specs.ObjectIds.{id_eq, has_id}
use Rattle.gx_hash.specs.declared.oid.ObjectId.{ObjectId}
use Rattle.gx_edit.specs.declared.output.PlannedTree.{PlannedTree}

abbrev pub ids_in : List PlannedTree → List ObjectId
ids_in trees = map (λ (tree : PlannedTree). tree.id) trees

moved : (a b c : Bool) → ((a || b) || c) ≡ (b || (a || c))
moved true true c = refl
moved true false c = refl
moved false b c = refl

pub one_more : (trees : List PlannedTree) (i : ℕ) (tree : PlannedTree) (old new : List ObjectId) → i < length trees → tree ≡ get_or trees i tree
    → ((id : ObjectId) → (has_id (ids_in (drop i trees)) id || has_id old id) ≡ has_id (ids_in trees) id)
    → ((id : ObjectId) → has_id new id ≡ (id_eq tree.id id || has_id old id))
    → (id : ObjectId) → (has_id (ids_in (drop (i + 1) trees)) id || has_id new id) ≡ has_id (ids_in trees) id
one_more trees i tree old new within is before more id =
    ap (λ b. has_id (ids_in (drop (i + 1) trees)) id || b) (more id)
    ∙ sym (moved (id_eq tree.id id) (has_id (ids_in (drop (i + 1) trees)) id) (has_id old id))
    ∙ ap (λ l. has_id (ids_in l) id || has_id old id) (ap (λ y. y ∷ drop (i + 1) trees) is ∙ ap (λ k. get_or trees i tree ∷ drop k trees) (add-one i) ∙ sym (drop-cons trees i tree within))
    ∙ before id
