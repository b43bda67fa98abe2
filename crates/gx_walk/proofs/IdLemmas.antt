-- Lists of ids, and what it means for an id to be one of those.
use Rattle.std.proofs.Common.{◌≡◌, ℕ, zero, suc, ◌<◌, ◌+◌, Bool, true, false, cond, List, [], ◌∷◌, ◌++◌, length, take, get_or, sym, refl, ap, ◌∙◌, subst, arith, ◌⊎◌, inl, inr, Some}
use Rattle.std.specs.declared.cmp.Ordering.{Ordering}
use Rattle.std.specs.declared.cmp.Ordering.TheVariants.{Less, Equal, Greater}
use Rattle.std.specs.List.{slice_get, list_any, flat_map, filter}
use Rattle.std.specs.Ordering.{is_eq}
use Rattle.std.specs.BTreeMap.{is_at}
use Rattle.std.specs.Prelude.{◌&&◌, ◌||◌}
use Rattle.std.proofs.lemmas.Bool.{or_cases, or_left, or_right, false≢true, cases_Bool, both_ways, false_from_ne_true}
use Rattle.std.proofs.lemmas.List.{take_more}
use Rattle.std.specs.Map.{lookup}
use Rattle.std.proofs.lemmas.Cmp.{tied_itself}
use Rattle.std.proofs.lemmas.List.Folds.{list_any-append}
use Rattle.std.proofs.lemmas.Map.Views.{any-filter_same}
use Rattle.gx_hash.specs.declared.oid.ObjectId.{ObjectId}
use Rattle.gx_hash.specs.Laws.{id_cmp_total, id_cmp-IsAntisymmetric, derived_cmp-id_cmp, same_id, own_id}
use Rattle.gx_hash.specs.ObjectId.{id_cmp}
use Rattle.gx_hash.specs.ObjectIds.{id_eq, derived_cmp, has_id}

is_equal : (o : Ordering) → is_eq o ≡ true → o ≡ Equal
is_equal Less h = absurd (false≢true h)
is_equal Equal h = refl
is_equal Greater h = absurd (false≢true h)

-- ids that compare as equal are one
pub same_at : (x y : ObjectId) → is_at (id_cmp x) y ≡ true → x ≡ y
same_at x y h = id_cmp-IsAntisymmetric x y (is_equal (id_cmp x y) h)

pub itself_at : (x : ObjectId) → is_at (id_cmp x) x ≡ true
itself_at x = ap is_eq (tied_itself id_cmp_total x)

pub cases_at : (x y : ObjectId) → (x ≡ y) ⊎ (is_at (id_cmp x) y ≡ false)
cases_at x y = elim (cases_Bool (is_at (id_cmp x) y)) [ inl e ↦ inl (same_at x y e) | inr ne ↦ inr ne ]

pub cases_id : (x y : ObjectId) → (x ≡ y) ⊎ (id_eq x y ≡ false)
cases_id x y = elim (cases_Bool (id_eq x y)) [ inl e ↦ inl (same_id x y e) | inr ne ↦ inr ne ]

pub has_id-append : (xs ys : List ObjectId) (x : ObjectId) → has_id (xs ++ ys) x ≡ (has_id xs x || has_id ys x)
has_id-append xs ys x = list_any-append (λ y. id_eq y x) xs ys

pub has_id_get : (xs : List ObjectId) (i : ℕ) (x : ObjectId) → slice_get xs i ≡ Some x → has_id xs x ≡ true
has_id_get [] i x h = cc
has_id_get (y ∷ ys) zero x h = let e : y ≡ x = cc in or_left _ _ (subst (λ w. id_eq w x ≡ true) (sym e) (own_id x))
has_id_get (y ∷ ys) (suc i) x h = or_right _ _ (has_id_get ys i x h)

-- where an id stands that is one of those
pub place_of : (xs : List ObjectId) (x : ObjectId) → has_id xs x ≡ true → (i : ℕ) × (slice_get xs i ≡ Some x)
place_of [] x h = absurd (false≢true h)
place_of (y ∷ ys) x h = elim (or_cases _ _ h) [
  | inl e ↦ (0, ap (λ w. Some w) (same_id y x e))
  | inr among ↦ let (i, here) = place_of ys x among in (suc i, here)
]

-- the front of a list has the ids that stand in it
pub has_id_take : (xs : List ObjectId) (i k : ℕ) (x : ObjectId) → k < i → slice_get xs k ≡ Some x → has_id (take i xs) x ≡ true
has_id_take [] i k x lt h = cc
has_id_take (y ∷ ys) zero k x lt h = absurd (omega arith)
has_id_take (y ∷ ys) (suc i) zero x lt h = let e : y ≡ x = cc in or_left _ _ (subst (λ w. id_eq w x ≡ true) (sym e) (own_id x))
has_id_take (y ∷ ys) (suc i) (suc k) x lt h = or_right _ _ (has_id_take ys i k x (omega arith) h)

-- one id alone
pub single : (x y : ObjectId) → has_id (x ∷ []) y ≡ true → x ≡ y
single x y h = elim (or_cases _ _ h) [ inl e ↦ same_id x y e | inr n ↦ absurd (false≢true n) ]

pub has_self : (x : ObjectId) → has_id (x ∷ []) x ≡ true
has_self x = or_left _ _ (own_id x)

pub has_id-filter : (p : ObjectId → Bool) (xs : List ObjectId) (x : ObjectId) → has_id (filter p xs) x ≡ (p x && has_id xs x)
has_id-filter p xs x = any-filter_same (λ y. id_eq y x) p (p x) (λ k e. ap p (same_id k x e)) xs

pub has_id_flat_map : (f : ObjectId → List ObjectId) (xs : List ObjectId) (y : ObjectId) → has_id (flat_map f xs) y ≡ true → (x : ObjectId) × (has_id xs x ≡ true) × (has_id (f x) y ≡ true)
has_id_flat_map f [] y h = absurd (false≢true h)
has_id_flat_map f (x ∷ xs) y h = elim (or_cases _ _ (rw has_id-append at h)) [
  | inl here ↦ (x, or_left _ _ (own_id x), here)
  | inr later ↦ let (z, among, of_z) = has_id_flat_map f xs y later in (z, or_right _ _ among, of_z)
]

pub has_id_flat_map_from : (f : ObjectId → List ObjectId) (xs : List ObjectId) (x y : ObjectId) → has_id xs x ≡ true → has_id (f x) y ≡ true → has_id (flat_map f xs) y ≡ true
has_id_flat_map_from f [] x y h k = absurd (false≢true h)
has_id_flat_map_from f (z ∷ zs) x y h k = rw has_id-append (elim (or_cases _ _ h) [
  | inl e ↦ or_left _ _ (subst (λ w. has_id (f w) y ≡ true) (sym (same_id z x e)) k)
  | inr later ↦ or_right _ _ (has_id_flat_map_from f zs x y later k)
])

-- ---- reads of longer lists

pub get_push : {K : Type 0} (xs : List K) (x : K) (i : ℕ) (y : K) → slice_get (xs ++ x ∷ []) i ≡ Some y → ((i < length xs) × (slice_get xs i ≡ Some y)) ⊎ ((i ≡ length xs) × (x ≡ y))
get_push [] x zero y h = inr (refl, cc)
get_push [] x (suc i) y h = cc
get_push (z ∷ zs) x zero y h = inl (omega arith, h)
get_push (z ∷ zs) x (suc i) y h = elim (get_push zs x i y h) [
  | inl both ↦ inl (omega (arith, both.0), both.1)
  | inr both ↦ inr (ap suc both.0, both.1)
]

pub take_push : {K : Type 0} (xs : List K) (x : K) → take (length xs) (xs ++ x ∷ []) ≡ xs
take_push [] x = refl
take_push (z ∷ zs) x = ap (λ w. z ∷ w) (take_push zs x)

pub get_front : {K : Type 0} (xs ys : List K) (i : ℕ) (x : K) → slice_get xs i ≡ Some x → slice_get (xs ++ ys) i ≡ Some x
get_front [] ys i x h = cc
get_front (z ∷ zs) ys zero x h = h
get_front (z ∷ zs) ys (suc i) x h = get_front zs ys i x h

pub get_last : {K : Type 0} (xs : List K) (x : K) → slice_get (xs ++ x ∷ []) (length xs) ≡ Some x
get_last [] x = refl
get_last (z ∷ zs) x = get_last zs x

pub get_at : {K : Type 0} (xs : List K) (n : ℕ) → n < length xs → (x : K) × (slice_get xs n ≡ Some x)
get_at [] n lt = absurd (omega arith)
get_at (z ∷ zs) zero lt = (z, refl)
get_at (z ∷ zs) (suc n) lt = get_at zs n (omega arith)

pub take_get : {K : Type 0} (xs : List K) (n : ℕ) (x : K) → slice_get xs n ≡ Some x → take (suc n) xs ≡ take n xs ++ x ∷ []
take_get [] n x h = cc
take_get (z ∷ zs) zero x h = let e : z ≡ x = cc in ap (λ w. w ∷ []) e
take_get (z ∷ zs) (suc n) x h = ap (λ w. z ∷ w) (take_get zs n x h)

-- ---- maps, which compare ids by their derived order

-- a map's value at an id, where one was put
pub put_is : {X : Type 0} (old new : List (ObjectId × X)) (id : ObjectId) (v : X) → ((q : ObjectId) → lookup (is_at (derived_cmp q)) new ≡ cond (is_at (derived_cmp id) q) (Some v) (lookup (is_at (derived_cmp q)) old)) → (one : ObjectId) → lookup (is_at (id_cmp one)) new ≡ cond (is_at (id_cmp id) one) (Some v) (lookup (is_at (id_cmp one)) old)
put_is old new id v h one = subst (λ R. lookup (is_at (R one)) new ≡ cond (is_at (R id) one) (Some v) (lookup (is_at (R one)) old)) derived_cmp-id_cmp (h one)

pub next_taken : (xs : List ObjectId) (i : ℕ) (x : ObjectId) → i < length xs → x ≡ get_or xs i x → take (i + 1) xs ≡ take i xs ++ x ∷ []
next_taken xs i x lt is = take_more xs i x lt ∙ ap (λ w. take i xs ++ w ∷ []) (sym is)

pub not_last : (a b : Bool) → b ≡ false → (a || b) ≡ a
not_last true b h = refl
not_last false b h = h

-- a loop's step: one more id was added
pub added_next : (xs : List ObjectId) (i : ℕ) (x : ObjectId) (old new : List ObjectId) → i < length xs → x ≡ get_or xs i x
    → ((one : ObjectId) → has_id old one ≡ has_id (take i xs) one) → ((one : ObjectId) → has_id new one ≡ (id_eq x one || has_id old one))
    → (one : ObjectId) → has_id new one ≡ has_id (take (i + 1) xs) one
added_next xs i x old new lt is before more one = more one ∙ turned ∙ sym (ap (λ w. has_id w one) (next_taken xs i x lt is) ∙ has_id-append (take i xs) (x ∷ []) one) where
  turned : (id_eq x one || has_id old one) ≡ (has_id (take i xs) one || has_id (x ∷ []) one)
  turned = elim (cases_id x one) [
    | inl e ↦ or_left _ _ (subst (λ w. id_eq x w ≡ true) e (own_id x)) ∙ sym (or_right (has_id (take i xs) one) (has_id (x ∷ []) one) (subst (λ w. has_id (x ∷ []) w ≡ true) e (has_self x)))
    | inr ne ↦ ap (λ w. w || has_id old one) ne ∙ before one ∙ sym (not_last (has_id (take i xs) one) (has_id (x ∷ []) one) (false_from_ne_true _ (λ e. both_ways _ ne (subst (λ w. id_eq x w ≡ true) (single x one e) (own_id x)))))
  ]
