-- A list of ids with a set beside it.
use Rattle.std.proofs.Common.{◌≡◌, ℕ, zero, suc, ◌-◌, ◌∙◌, ◌++◌, ◌||◌, Bool, true, false, not, cond, List, [], ◌∷◌, length, take, refl, sym, ap, subst, inl, inr, ◌⊎◌, length-append, arith, map}
use Rattle.std.specs.List.{list_any}
use Rattle.std.specs.Ordering.{is_eq}
use Rattle.std.specs.BTreeMap.{is_at}
use Rattle.std.proofs.lemmas.Bool.{false≢true, both_ways, cases_Bool}
use Rattle.std.proofs.lemmas.List.{map-append}
use Rattle.gx_hash.specs.declared.oid.ObjectId.{ObjectId}
use Rattle.gx_hash.specs.ObjectIds.{id_eq, derived_cmp, has_id}
use Rattle.gx_hash.specs.Laws.{derived_cmp-id_cmp, id_eq-id_cmp, same_id, own_id}
use Rattle.gx_walk.specs.Above.{IsApart, IsSetOf}
use Rattle.gx_walk.specs.OpenTree.{above_of}
use Rattle.gx_walk.specs.declared.tree.open_tree.OpenTree.{OpenTree}
use Rattle.gx_walk.proofs.IdLemmas.{has_id-append, cases_id}
use Rattle.gx_walk.proofs.OpenLemmas.{above_is}

at_id : (id one : ObjectId) → is_at (derived_cmp id) one ≡ id_eq id one
at_id id one = ap (λ R. is_eq (R id one)) derived_cmp-id_cmp ∙ sym (id_eq-id_cmp id one)

neither : (a b : Bool) → (a || b) ≡ false → (a ≡ false) × (b ≡ false)
neither true b h = absurd (false≢true (sym h))
neither false b h = (refl, h)

both_false : (a b : Bool) → a ≡ false → b ≡ false → (a || b) ≡ false
both_false true b p q = p
both_false false b p q = q

turned : (x y : ObjectId) → id_eq x y ≡ false → id_eq y x ≡ false
turned x y ne = elim (cases_id y x) [
  | inl e ↦ absurd (both_ways _ ne (subst (λ w. id_eq w y ≡ true) e (own_id y)))
  | inr other ↦ other
]

apart_push : (xs : List ObjectId) (x : ObjectId) → IsApart xs → has_id xs x ≡ false → IsApart (xs ++ x ∷ [])
apart_push [] x h none = (refl, tt)
apart_push (y ∷ ys) x h none =
    let parts = neither (id_eq y x) (has_id ys x) none in
    (has_id-append ys (x ∷ []) y ∙ both_false (has_id ys y) (has_id (x ∷ []) y) h.0 (both_false (id_eq x y) false (turned y x parts.0) refl), apart_push ys x h.1 parts.1)

apart_last : (xs : List ObjectId) (x : ObjectId) → IsApart (xs ++ x ∷ []) → (has_id xs x ≡ false) × IsApart xs
apart_last [] x h = (refl, tt)
apart_last (y ∷ ys) x h =
    let parts = neither (has_id ys y) (has_id (x ∷ []) y) (sym (has_id-append ys (x ∷ []) y) ∙ h.0) in
    let rest = apart_last ys x h.1 in
    (both_false (id_eq y x) (has_id ys x) (turned x y (neither (id_eq x y) false parts.1).0) rest.0, (parts.0, rest.1))

last : (a b : Bool) → (a || (b || false)) ≡ cond b true a
last true true = refl
last true false = refl
last false true = refl
last false false = refl

without : (a b : Bool) → (b ≡ true → a ≡ false) → cond b false (a || (b || false)) ≡ a
without true true h = sym (h refl)
without true false h = refl
without false true h = refl
without false false h = refl

-- an id is added
pub set_push : (xs old new : List ObjectId) (x : ObjectId) → IsSetOf xs old → has_id xs x ≡ false
    → ((q : ObjectId) → list_any (is_at (derived_cmp q)) new ≡ cond (is_at (derived_cmp x) q) true (list_any (is_at (derived_cmp q)) old))
    → IsSetOf (xs ++ x ∷ []) new
set_push xs old new x h none added = record {
  apart = apart_push xs x h.apart none;
  same = λ q. added q ∙ ap (λ b. cond b true (list_any (is_at (derived_cmp q)) old)) (at_id x q) ∙ ap (cond (id_eq x q) true) (h.same q)
      ∙ sym (has_id-append xs (x ∷ []) q ∙ last (has_id xs q) (id_eq x q));
}

kept : (b c : Bool) → (b ≡ true → c ≡ true) → cond b true c ≡ c
kept true c h = sym (h refl)
kept false c h = refl

-- an id that is there is added again
pub set_same : (xs old new : List ObjectId) (x : ObjectId) → IsSetOf xs old → has_id xs x ≡ true
    → ((q : ObjectId) → list_any (is_at (derived_cmp q)) new ≡ cond (is_at (derived_cmp x) q) true (list_any (is_at (derived_cmp q)) old))
    → IsSetOf xs new
set_same xs old new x h there added = record {
  apart = h.apart;
  same = λ q. added q ∙ ap (λ b. cond b true (list_any (is_at (derived_cmp q)) old)) (at_id x q) ∙ ap (cond (id_eq x q) true) (h.same q)
      ∙ kept (id_eq x q) (has_id xs q) (λ e. subst (λ w. has_id xs w ≡ true) (same_id x q e) there);
}

-- the last id is taken away
pub set_pop : (xs old new : List ObjectId) (x : ObjectId) → IsSetOf (xs ++ x ∷ []) old
    → ((q : ObjectId) → list_any (is_at (derived_cmp q)) new ≡ cond (is_at (derived_cmp x) q) false (list_any (is_at (derived_cmp q)) old))
    → IsSetOf xs new
set_pop xs old new x h taken =
    let parts = apart_last xs x h.apart in
    record {
      apart = parts.1;
      same = λ q. taken q ∙ ap (λ b. cond b false (list_any (is_at (derived_cmp q)) old)) (at_id x q) ∙ ap (cond (id_eq x q) false) (h.same q ∙ has_id-append xs (x ∷ []) q)
          ∙ without (has_id xs q) (id_eq x q) (λ e. subst (λ w. has_id xs w ≡ false) (same_id x q e) parts.0);
    }

-- what a set found of an id
pub found_in : (xs keys : List ObjectId) (x : ObjectId) → IsSetOf xs keys → list_any (is_at (derived_cmp x)) keys ≡ has_id xs x
found_in xs keys x h = h.same x

-- ---- the ids above, as trees are entered and left

pub above_push : (levels : List OpenTree) (tree inner : OpenTree) → above_of [] (levels ++ tree ∷ []) inner ≡ above_of [] levels tree ++ inner.id ∷ []
above_push levels tree inner = above_is [] (levels ++ tree ∷ []) inner
    ∙ ap (λ ids. ids ++ inner.id ∷ []) (map-append (λ (t : OpenTree). t.id) levels (tree ∷ []) ∙ sym (above_is [] levels tree))

front : (xs : List ObjectId) (x : ObjectId) → take (length (xs ++ x ∷ []) - 1) (xs ++ x ∷ []) ≡ xs
front xs x = ap (λ n. take n (xs ++ x ∷ [])) (ap (λ n. n - 1) (length-append xs (x ∷ [])) ∙ omega arith) ∙ taken xs
  where
    taken : (ys : List ObjectId) → take (length ys) (ys ++ x ∷ []) ≡ ys
    taken [] = refl
    taken (y ∷ ys) = ap (λ zs. y ∷ zs) (taken ys)

-- a tree is left
pub above_pop : (levels all : List OpenTree) (tree above : OpenTree) (ids : List ObjectId) → all ≡ levels ++ above ∷ [] → ids ≡ above_of [] all tree → take (length ids - 1) ids ≡ above_of [] levels above
above_pop levels all tree above ids split is =
    ap (λ xs. take (length xs - 1) xs) (is ∙ ap (λ ls. above_of [] ls tree) split ∙ above_push levels above tree) ∙ front (above_of [] levels above) tree.id
