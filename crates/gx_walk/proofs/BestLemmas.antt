-- How the best of common ancestors are found.
use Rattle.std.proofs.Common.{◌≡◌, ℕ, zero, suc, ◌<◌, ◌+◌, ℤ, ◌<ℤ◌, ◌-ℤ◌, pos, negsuc, Bool, true, false, not, List, [], ◌∷◌, length, take, get_or, map, filter, sym, refl, ap, ◌∙◌, subst, arith, ◌⊎◌, inl, inr, Some}
use Rattle.std.specs.Prelude.{◌&&◌, ◌||◌}
use Rattle.std.specs.List.{list_any, slice_get}
use Rattle.std.specs.List.Sorted.{IsStrictlySortedBy}
use Rattle.std.specs.declared.cmp.Ordering.{Ordering}
use Rattle.std.specs.declared.cmp.Ordering.TheVariants.{Less, Equal, Greater}
use Rattle.std.specs.Ordering.{is_eq, int_eq, int_cmp, ordering_then}
use Rattle.std.specs.BTreeMap.{is_at}
use Rattle.std.specs.BTreeSet.{BTreeSet, contains, Updates}
use Rattle.std.proofs.lemmas.Map.Keys.{Less-from_sorted}
use Rattle.std.proofs.lemmas.List.Folds.{list_any_at, list_any-append}
use Rattle.std.proofs.lemmas.Bool.{cases_Bool, and_from, and_parts, or_cases, or_left, or_right, both_ways, false_from_ne_true, false≢true}
use Rattle.std.proofs.lemmas.Bool.Decides.{Decides-int_eq}
use Rattle.std.proofs.lemmas.Cmp.{tied_itself}
use Rattle.std.proofs.lemmas.Int.{ints}
use Rattle.gx_hash.specs.ObjectId.{id_cmp}
use Rattle.gx_hash.specs.ObjectIds.{id_eq, derived_cmp, has_id}
use Rattle.gx_hash.specs.Laws.{id_cmp_total, derived_cmp-id_cmp, same_id, own_id}
use Rattle.gx_hash.specs.declared.oid.ObjectId.{ObjectId}
use Rattle.gx_walk.specs.Best.{AreUnmarked, IsBestOf, has_child, key_cmp, rank_at}
use Rattle.gx_walk.specs.History.{History, time_of}
use Rattle.gx_walk.specs.MergeBase.{StandsBefore}
use Rattle.gx_walk.proofs.IdLemmas.{cases_id, has_id-append, has_self, same_at, next_taken, not_last, single}

-- one more id of a list
pub has_more : (ids : List ObjectId) (i : ℕ) (x : ObjectId) → i < length ids → x ≡ get_or ids i x → (q : ObjectId) → has_id (take (i + 1) ids) q ≡ (has_id (take i ids) q || id_eq x q)
has_more ids i x lt is q = ap (λ w. has_id w q) (next_taken ids i x lt is) ∙ has_id-append (take i ids) (x ∷ []) q ∙ ap (λ b. has_id (take i ids) q || b) (last (id_eq x q)) where
  last : (b : Bool) → (b || false) ≡ b
  last true = refl
  last false = refl

-- ---- parents are marked

put_on : (o i p t : Bool) → (p ≡ true → i ≡ false) → (p || (o || (not i && t))) ≡ (o || (not i && (t || p)))
put_on true i true t h = refl
put_on true i false t h = refl
put_on false true true t h = absurd (false≢true (sym (h refl)))
put_on false true false t h = refl
put_on false false true true h = refl
put_on false false true false h = refl
put_on false false false true h = refl
put_on false false false false h = refl

left_out : (o i p t : Bool) → (p ≡ true → i ≡ true) → (o || (not i && t)) ≡ (o || (not i && (t || p)))
left_out true i p t h = refl
left_out false true p t h = refl
left_out false false true t h = absurd (false≢true (h refl))
left_out false false false true h = refl
left_out false false false false h = refl

module _ (ids : List ObjectId) (i : ℕ) (x : ObjectId) (lt : i < length ids) (is : x ≡ get_or ids i x) (id : ObjectId) (before : ObjectId → Bool) where
  -- a parent is marked
  pub mark_next : (old new : List ObjectId) → id_eq x id ≡ false → ((q : ObjectId) → has_id old q ≡ (before q || (not (id_eq id q) && has_id (take i ids) q)))
      → ((q : ObjectId) → has_id new q ≡ (id_eq x q || has_id old q)) → (q : ObjectId) → has_id new q ≡ (before q || (not (id_eq id q) && has_id (take (i + 1) ids) q))
  mark_next old new apart was added q = added q ∙ ap (λ b. id_eq x q || b) (was q)
      ∙ put_on (before q) (id_eq id q) (id_eq x q) (has_id (take i ids) q) (λ e. false_from_ne_true _ (λ f. both_ways _ apart (subst (λ w. id_eq x w ≡ true) (sym (same_id id q f)) e)))
      ∙ ap (λ b. before q || (not (id_eq id q) && b)) (sym (has_more ids i x lt is q))

  -- the commit itself is not
  pub mark_none : (old : List ObjectId) → id_eq x id ≡ true → ((q : ObjectId) → has_id old q ≡ (before q || (not (id_eq id q) && has_id (take i ids) q)))
      → (q : ObjectId) → has_id old q ≡ (before q || (not (id_eq id q) && has_id (take (i + 1) ids) q))
  mark_none old same was q = was q
      ∙ left_out (before q) (id_eq id q) (id_eq x q) (has_id (take i ids) q) (λ e. subst (λ w. id_eq w q ≡ true) (same_id x id same) e)
      ∙ ap (λ b. before q || (not (id_eq id q) && b)) (sym (has_more ids i x lt is q))

-- ---- keys of what is not marked

then_eq : (a b : Ordering) → is_eq (ordering_then a b) ≡ true → (is_eq a ≡ true) × (is_eq b ≡ true)
then_eq Less b h = absurd (false≢true h)
then_eq Equal b h = (refl, h)
then_eq Greater b h = absurd (false≢true h)

then_less : (a b : Ordering) → ordering_then a b ≡ Less → (a ≡ Less) ⊎ ((a ≡ Equal) × (b ≡ Less))
then_less Less b h = inl refl
then_less Equal b h = inr (refl, h)
then_less Greater b h = cc

derived : (x y : ObjectId) → derived_cmp x y ≡ id_cmp x y
derived x y = ap (λ R. R x y) derived_cmp-id_cmp

key_same : (r s : ℤ) (x y : ObjectId) → is_eq (key_cmp (r, x) (s, y)) ≡ true → (r ≡ s) × (x ≡ y)
key_same r s x y h =
    let both = then_eq (int_cmp r s) (derived_cmp x y) h in
    ((Decides-int_eq r s).0 both.0, same_at x y (ap is_eq (sym (derived x y)) ∙ both.1))

key_refl : (r : ℤ) (x : ObjectId) → is_eq (key_cmp (r, x) (r, x)) ≡ true
key_refl r x =
    let e : int_cmp r r ≡ Equal = grind (arith, ints) in
    ap (λ o. is_eq (ordering_then o (derived_cmp x x))) e ∙ ap is_eq (derived x x ∙ tied_itself id_cmp_total x)

or_none : (a b : Bool) → b ≡ false → (a || b) ≡ a
or_none true b h = refl
or_none false b h = h

module _ (rank : ObjectId → ℤ) (marked : ObjectId → Bool) (ids : List ObjectId) (i : ℕ) (x : ObjectId) (lt : i < length ids) (is : x ≡ get_or ids i x) (keys : BTreeSet (ℤ × ObjectId)) (was : AreUnmarked rank marked (take i ids) keys) where
  -- a marked id is left out
  pub unmarked_none : marked x ≡ true → AreUnmarked rank marked (take (i + 1) ids) keys
  unmarked_none at r q = was r q ∙ ap (λ b. int_eq r (rank q) && b) (same (cases_id x q)) where
    same : (x ≡ q) ⊎ (id_eq x q ≡ false) → (not (marked q) && has_id (take i ids) q) ≡ (not (marked q) && has_id (take (i + 1) ids) q)
    same (inl e) = let m : marked q ≡ true = subst (λ w. marked w ≡ true) e at in ap (λ b. not b && has_id (take i ids) q) m ∙ sym (ap (λ b. not b && has_id (take (i + 1) ids) q) m)
    same (inr ne) = ap (λ b. not (marked q) && b) (sym (has_more ids i x lt is q ∙ or_none _ _ ne))

  -- another one is put in under its rank
  pub unmarked_next : (more : BTreeSet (ℤ × ObjectId)) (at : ℤ) → marked x ≡ false → at ≡ rank x → Updates key_cmp keys more (at, x) true → AreUnmarked rank marked (take (i + 1) ids) more
  unmarked_next more at clear ranked updates r q = elim (cases_Bool (is_eq (key_cmp (at, x) (r, q)))) [
    | inl e ↦
        let same = key_same at r x q e in
        let here : contains key_cmp more (r, q) ≡ true = subst (λ w. contains key_cmp more (w, q) ≡ true) same.0 (subst (λ w. contains key_cmp more (at, w) ≡ true) same.1 updates.1) in
        let rank_is : int_eq r (rank q) ≡ true = (Decides-int_eq r (rank q)).1 (sym same.0 ∙ ranked ∙ ap rank same.1) in
        let open_ : not (marked q) ≡ true = ap not (sym (ap marked same.1) ∙ clear) in
        let among : has_id (take (i + 1) ids) q ≡ true = has_more ids i x lt is q ∙ or_right _ _ (subst (λ w. id_eq x w ≡ true) same.1 (own_id x)) in
        here ∙ sym (and_from _ _ rank_is (and_from _ _ open_ among))
    | inr apart ↦ updates.2 (r, q) apart ∙ was r q ∙ elim (cases_id x q) [
      | inl e ↦
          let unranked : int_eq r (rank q) ≡ false = false_from_ne_true _ (λ t.
          let ar : at ≡ r = ranked ∙ ap rank e ∙ sym ((Decides-int_eq r (rank q)).0 t) in
          both_ways _ apart (subst (λ w. is_eq (key_cmp (at, x) (w, q)) ≡ true) ar (subst (λ w. is_eq (key_cmp (at, x) (at, w)) ≡ true) e (key_refl at x)))) in
          ap (λ b. b && (not (marked q) && has_id (take i ids) q)) unranked ∙ sym (ap (λ b. b && (not (marked q) && has_id (take (i + 1) ids) q)) unranked)
      | inr ne ↦ ap (λ b. int_eq r (rank q) && (not (marked q) && b)) (sym (has_more ids i x lt is q ∙ or_none _ _ ne))
    ]
  ]

-- ---- the ids of keys

key_of_id : (keys : List (ℤ × ObjectId)) (x : ObjectId) → has_id (map (λ k. k.1) keys) x ≡ true → (r : ℤ) × (list_any (is_at (key_cmp (r, x))) keys ≡ true)
key_of_id [] x h = absurd (false≢true h)
key_of_id ((s, k) ∷ ks) x h = elim (or_cases _ _ h) [
  | inl e ↦ (s, or_left _ _ (subst (λ w. is_eq (key_cmp (s, w) (s, k)) ≡ true) (same_id k x e) (key_refl s k)))
  | inr rest ↦ let (r, found) = key_of_id ks x rest in (r, or_right _ _ found)
]

id_of_key : (keys : List (ℤ × ObjectId)) (r : ℤ) (x : ObjectId) → list_any (is_at (key_cmp (r, x))) keys ≡ true → has_id (map (λ k. k.1) keys) x ≡ true
id_of_key [] r x h = absurd (false≢true h)
id_of_key ((s, k) ∷ ks) r x h = elim (or_cases _ _ h) [
  | inl e ↦ or_left _ _ (subst (λ w. id_eq w x ≡ true) (key_same r s x k e).1 (own_id x))
  | inr rest ↦ or_right _ _ (id_of_key ks r x rest)
]

key_at : (keys : List (ℤ × ObjectId)) (d : ℤ × ObjectId) (i : ℕ) (x : ObjectId) → slice_get (map (λ k. k.1) keys) i ≡ Some x → (i < length keys) × ((get_or keys i d).1 ≡ x)
key_at [] d i x h = cc
key_at (k ∷ ks) d zero x h = (omega arith, cc)
key_at (k ∷ ks) d (suc i) x h = let both = key_at ks d i x h in (omega (arith, both.0), both.1)

int_lower : (r s : ℤ) → int_cmp r s ≡ Less → r <ℤ s
int_lower r s h = grind (arith, ints)

-- ---- the same with what is known of the id first

pub skip_marked : (rank : ObjectId → ℤ) (marked : ObjectId → Bool) (x : ObjectId) → marked x ≡ true → (ids : List ObjectId) (i : ℕ) → i < length ids → x ≡ get_or ids i x → (keys : BTreeSet (ℤ × ObjectId)) → AreUnmarked rank marked (take i ids) keys → AreUnmarked rank marked (take (i + 1) ids) keys
skip_marked rank marked x at ids i lt is keys was = unmarked_none rank marked ids i x lt is keys was at

pub skip_itself : (x id : ObjectId) → id_eq x id ≡ true → (ids : List ObjectId) (i : ℕ) → i < length ids → x ≡ get_or ids i x → (before : ObjectId → Bool) (old : List ObjectId)
    → ((q : ObjectId) → has_id old q ≡ (before q || (not (id_eq id q) && has_id (take i ids) q))) → (q : ObjectId) → has_id old q ≡ (before q || (not (id_eq id q) && has_id (take (i + 1) ids) q))
skip_itself x id same ids i lt is before old was = mark_none ids i x lt is id before old same was

-- one more commit whose parents are marked
pub child_next : (follow : ObjectId → List ObjectId) (ids : List ObjectId) (i : ℕ) (x : ObjectId) (old new : List ObjectId) → i < length ids → x ≡ get_or ids i x
    → ((q : ObjectId) → has_id old q ≡ list_any (λ z. not (id_eq z q) && has_id (follow z) q) (take i ids))
    → ((q : ObjectId) → has_id new q ≡ (has_id old q || (not (id_eq x q) && has_id (follow x) q)))
    → (q : ObjectId) → has_id new q ≡ list_any (λ z. not (id_eq z q) && has_id (follow z) q) (take (i + 1) ids)
child_next follow ids i x old new lt is was added q =
    let p : ObjectId → Bool = λ z. not (id_eq z q) && has_id (follow z) q in
    added q ∙ ap (λ b. b || p x) (was q) ∙ sym (ap (list_any p) (next_taken ids i x lt is) ∙ list_any-append p (take i ids) (x ∷ []) ∙ ap (λ b. list_any p (take i ids) || b) (last (p x))) where
      last : (b : Bool) → (b || false) ≡ b
      last true = refl
      last false = refl

pub child_more : (follow : ObjectId → List ObjectId) (x : ObjectId) (parents : List ObjectId) → parents ≡ follow x → (old new : List ObjectId)
    → ((q : ObjectId) → has_id new q ≡ (has_id old q || (not (id_eq x q) && has_id parents q))) → (ids : List ObjectId) (i : ℕ) → i < length ids → x ≡ get_or ids i x
    → ((q : ObjectId) → has_id old q ≡ list_any (λ z. not (id_eq z q) && has_id (follow z) q) (take i ids))
    → (q : ObjectId) → has_id new q ≡ list_any (λ z. not (id_eq z q) && has_id (follow z) q) (take (i + 1) ids)
child_more follow x parents is_follow old new added ids i lt is was =
    child_next follow ids i x old new lt is was (λ q. added q ∙ ap (λ w. has_id old q || (not (id_eq x q) && has_id w q)) is_follow)

-- ---- the list of bases

both_same : (a b : Bool) → (a ≡ true → b ≡ true) → (b ≡ true → a ≡ true) → a ≡ b
both_same true b f g = sym (f refl)
both_same false true f g = g refl
both_same false false f g = refl

key_less : (r s : ℤ) (x y : ObjectId) → key_cmp (r, x) (s, y) ≡ Less → (r <ℤ s) ⊎ ((r ≡ s) × (id_cmp x y ≡ Less))
key_less r s x y h = elim (then_less (int_cmp r s) (derived_cmp x y) h) [
  | inl less ↦ inl (int_lower r s less)
  | inr both ↦ inr ((Decides-int_eq r s).0 (ap is_eq both.0), sym (derived x y) ∙ both.1)
]

stands_before : (t u r s : ℤ) (x y : ObjectId) → r ≡ negsuc 0 -ℤ t → s ≡ negsuc 0 -ℤ u → key_cmp (r, x) (s, y) ≡ Less → StandsBefore t x u y
stands_before t u r s x y rt su less = elim (key_less r s x y less) [
  | inl lower ↦ inl (omega (arith, ints))
  | inr both ↦ inr (omega (arith, ints), both.1)
]

module _ (history : History) (marked : ObjectId → Bool) (ids : List ObjectId) (keys : BTreeSet (ℤ × ObjectId)) (are : AreUnmarked (rank_at history) marked ids keys) (sorted : IsStrictlySortedBy key_cmp keys.keys) where
  pub keys_exact : (x : ObjectId) → has_id (map (λ k. k.1) keys.keys) x ≡ (not (marked x) && has_id ids x)
  keys_exact x = both_same _ _
      (λ h. let (r, key) = key_of_id keys.keys x h in (and_parts (int_eq r (rank_at history x)) _ (sym (are r x) ∙ key)).1)
      (λ h. id_of_key keys.keys (rank_at history x) x (are (rank_at history x) x ∙ and_from _ _ ((Decides-int_eq (rank_at history x) (rank_at history x)).1 refl) h))

  key_rank : (d : ℤ × ObjectId) (i : ℕ) → i < length keys.keys → (get_or keys.keys i d).0 ≡ rank_at history (get_or keys.keys i d).1
  key_rank d i below =
      let k : ℤ × ObjectId = get_or keys.keys i d in
      (Decides-int_eq _ _).0 (and_parts (int_eq k.0 (rank_at history k.1)) _ (sym (are k.0 k.1) ∙ list_any_at (is_at (key_cmp k)) keys.keys i d below (key_refl k.0 k.1))).0

  pub keys_ordered : (i j : ℕ) (x y : ObjectId) → i < j → slice_get (map (λ k. k.1) keys.keys) i ≡ Some x → slice_get (map (λ k. k.1) keys.keys) j ≡ Some y
      → StandsBefore (time_of history x) x (time_of history y) y
  keys_ordered i j x y lt at_i at_j =
      let d : ℤ × ObjectId = (pos 0, x) in
      let p = key_at keys.keys d i x at_i in
      let q = key_at keys.keys d j y at_j in
      stands_before (time_of history x) (time_of history y) (get_or keys.keys i d).0 (get_or keys.keys j d).0 x y
      (key_rank d i p.0 ∙ ap (rank_at history) p.1) (key_rank d j q.0 ∙ ap (rank_at history) q.1)
      (subst (λ w. key_cmp ((get_or keys.keys i d).0, w) ((get_or keys.keys j d).0, y) ≡ Less) p.1
      (subst (λ w. key_cmp ((get_or keys.keys i d).0, (get_or keys.keys i d).1) ((get_or keys.keys j d).0, w) ≡ Less) q.1
      (Less-from_sorted key_cmp keys.keys i j d sorted lt q.0)))

  -- what is unmarked, in order, is the best
  pub best_from : (is_shallow : ObjectId → Bool) (bases : List ObjectId) → ((q : ObjectId) → marked q ≡ has_child history is_shallow ids q) → bases ≡ map (λ k. k.1) keys.keys → IsBestOf history is_shallow ids bases
  best_from is_shallow bases is_marked are_keys = record {
    exact = λ x. ap (λ w. has_id w x) are_keys ∙ keys_exact x ∙ ap (λ b. not b && has_id ids x) (is_marked x);
    ordered = λ i j x y lt at_i at_j. keys_ordered i j x y lt (subst (λ w. slice_get w i ≡ Some x) are_keys at_i) (subst (λ w. slice_get w j ≡ Some y) are_keys at_j);
  }
