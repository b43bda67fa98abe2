-- Elements of lists.
use Rattle.std.proofs.Common.{◌≡◌, ◌⊎◌, inl, inr, ⊎_elim, sym, refl, subst, arith, List, [], ◌∷◌, ◌++◌, map, suc, zero, Bool, true, false, true≢false, ◌||◌, Contains}
use Rattle.std.specs.List.{AllByRecursion, AllZip, flat_map}
use Rattle.gx_hash.specs.declared.oid.ObjectId.{ObjectId}
use Rattle.gx_hash.specs.ObjectIds.{id_eq, has_id}
use Rattle.gx_hash.specs.Laws.{own_id, same_id}

module _ {X : Type 0} where
  pub none_in : (x : X) → Contains [] x → ⊥
  none_in x h = absurd (omega (arith, h.1))

  pub at_head : (x : X) (xs : List X) → Contains (x ∷ xs) x
  at_head x xs = (0, omega arith, refl)

  pub at_tail : (x : X) (xs : List X) (y : X) → Contains xs y → Contains (x ∷ xs) y
  at_tail x xs y h = (suc h.0, (let less = h.1 in omega arith), h.2)

  pub first_or_later : (x : X) (xs : List X) (y : X) → Contains (x ∷ xs) y → (x ≡ y) ⊎ Contains xs y
  first_or_later x xs y (zero, less, is) = inl is
  first_or_later x xs y (suc k, less, is) = inr (k, omega (arith, less), is)

  pub all_at : (P : X → Type 0) (xs : List X) (x : X) → AllByRecursion P xs → Contains xs x → P x
  all_at P [] x all h = absurd (none_in x h)
  all_at P (y ∷ xs) x all h = ⊎_elim (λ is. subst P is all.0) (λ later. all_at P xs x all.1 later) (first_or_later y xs x h)

  pub all_of : (P : X → Type 0) (xs : List X) → ((x : X) → Contains xs x → P x) → AllByRecursion P xs
  all_of P [] f = tt
  all_of P (x ∷ xs) f = (f x (at_head x xs), all_of P xs (λ y h. f y (at_tail x xs y h)))

  pub all_before : (P : X → Type 0) (xs ys : List X) → AllByRecursion P (xs ++ ys) → AllByRecursion P xs
  all_before P [] ys h = tt
  all_before P (x ∷ xs) ys h = (h.0, all_before P xs ys h.1)

  pub all_behind : (P : X → Type 0) (xs ys : List X) → AllByRecursion P (xs ++ ys) → AllByRecursion P ys
  all_behind P [] ys h = h
  all_behind P (x ∷ xs) ys h = all_behind P xs ys h.1

  pub all_both : (P : X → Type 0) (xs ys : List X) → AllByRecursion P xs → AllByRecursion P ys → AllByRecursion P (xs ++ ys)
  all_both P [] ys h k = k
  all_both P (x ∷ xs) ys h k = (h.0, all_both P xs ys h.1 k)

  pub in_front : (xs ys : List X) (x : X) → Contains xs x → Contains (xs ++ ys) x
  in_front [] ys x h = absurd (none_in x h)
  in_front (y ∷ xs) ys x h = ⊎_elim
      (λ is. subst (Contains (y ∷ (xs ++ ys))) is (at_head y (xs ++ ys)))
      (λ later. at_tail y (xs ++ ys) x (in_front xs ys x later))
      (first_or_later y xs x h)

  pub in_back : (xs ys : List X) (x : X) → Contains ys x → Contains (xs ++ ys) x
  in_back [] ys x h = h
  in_back (y ∷ xs) ys x h = at_tail y (xs ++ ys) x (in_back xs ys x h)

  pub front_or_back : (xs ys : List X) (x : X) → Contains (xs ++ ys) x → Contains xs x ⊎ Contains ys x
  front_or_back [] ys x h = inr h
  front_or_back (y ∷ xs) ys x h = ⊎_elim
      (λ is. inl (subst (Contains (y ∷ xs)) is (at_head y xs)))
      (λ more. ⊎_elim (λ front. inl (at_tail y xs x front)) (λ back. inr back) (front_or_back xs ys x more))
      (first_or_later y (xs ++ ys) x h)

-- ---- lists of lists

pub in_joined : {X : Type 0} (lists : List (List X)) (xs : List X) (x : X) → Contains lists xs → Contains xs x → Contains (flat_map (λ l. l) lists) x
in_joined [] xs x among h = absurd (none_in xs among)
in_joined (l ∷ lists) xs x among h = ⊎_elim
    (λ is. in_front l (flat_map (λ l. l) lists) x (subst (λ k. Contains k x) (sym is) h))
    (λ later. in_back l (flat_map (λ l. l) lists) x (in_joined lists xs x later h))
    (first_or_later l lists xs among)

pub joined_from : {X : Type 0} (lists : List (List X)) (x : X) → Contains (flat_map (λ l. l) lists) x → (xs : List X) × Contains lists xs × Contains xs x
joined_from [] x h = absurd (none_in x h)
joined_from (l ∷ lists) x h = ⊎_elim
    (λ here. (l, at_head l lists, here))
    (λ later. let m = joined_from lists x later in (m.0, at_tail l lists m.0 m.1, m.2))
    (front_or_back l (flat_map (λ l. l) lists) x h)

module _ {X Y : Type 0} where
  pub in_mapped : (f : X → Y) (xs : List X) (x : X) → Contains xs x → Contains (map f xs) (f x)
  in_mapped f [] x h = absurd (none_in x h)
  in_mapped f (y ∷ xs) x h = ⊎_elim
      (λ is. subst (λ z. Contains (f y ∷ map f xs) (f z)) is (at_head (f y) (map f xs)))
      (λ later. at_tail (f y) (map f xs) (f x) (in_mapped f xs x later))
      (first_or_later y xs x h)

  pub mapped_from : (f : X → Y) (xs : List X) (y : Y) → Contains (map f xs) y → (x : X) × Contains xs x × (f x ≡ y)
  mapped_from f [] y h = absurd (none_in y h)
  mapped_from f (x ∷ xs) y h = ⊎_elim
      (λ is. (x, at_head x xs, is))
      (λ later. let m = mapped_from f xs y later in (m.0, at_tail x xs m.0 m.1, m.2))
      (first_or_later (f x) (map f xs) y h)

  -- what stands beside an element of the first list
  pub beside : (R : X → Y → Type 0) (xs : List X) (ys : List Y) (x : X) → AllZip R xs ys → Contains xs x → (y : Y) × Contains ys y × R x y
  beside R [] [] x all h = absurd (none_in x h)
  beside R [] (y ∷ ys) x all h = absurd all
  beside R (z ∷ xs) [] x all h = absurd all
  beside R (z ∷ xs) (y ∷ ys) x all h = ⊎_elim
      (λ is. (y, at_head y ys, subst (λ k. R k y) is all.0))
      (λ later. let m = beside R xs ys x all.1 later in (m.0, at_tail y ys m.0 m.1, m.2))
      (first_or_later z xs x h)

  -- and beside one of the second
  pub beside_second : (R : X → Y → Type 0) (xs : List X) (ys : List Y) (y : Y) → AllZip R xs ys → Contains ys y → (x : X) × Contains xs x × R x y
  beside_second R [] [] y all h = absurd (none_in y h)
  beside_second R [] (z ∷ ys) y all h = absurd all
  beside_second R (x ∷ xs) [] y all h = absurd all
  beside_second R (x ∷ xs) (z ∷ ys) y all h = ⊎_elim
      (λ is. (x, at_head x xs, subst (R x) is all.0))
      (λ later. let m = beside_second R xs ys y all.1 later in (m.0, at_tail x xs m.0 m.1, m.2))
      (first_or_later z ys y h)

-- ---- ids

either_right : (a b : Bool) → b ≡ true → (a || b) ≡ true
either_right true b h = refl
either_right false b h = h

either_left : (a b : Bool) → a ≡ true → (a || b) ≡ true
either_left true b h = refl
either_left false b h = absurd (true≢false (sym h))

-- an id that is among others is found there
pub is_found : (ids : List ObjectId) (id : ObjectId) → Contains ids id → has_id ids id ≡ true
is_found [] id h = absurd (none_in id h)
is_found (x ∷ ids) id h = ⊎_elim
    (λ is. either_left (id_eq x id) (has_id ids id) (subst (λ k. id_eq x k ≡ true) is (own_id x)))
    (λ later. either_right (id_eq x id) (has_id ids id) (is_found ids id later))
    (first_or_later x ids id h)

pub found_in : (ids : List ObjectId) (id : ObjectId) → has_id ids id ≡ true → Contains ids id
found_in [] id h = cc
found_in (x ∷ ids) id h = go (id_eq x id) refl h (found_in ids id)
  where
    go : (t : Bool) → id_eq x id ≡ t → (t || has_id ids id) ≡ true → (has_id ids id ≡ true → Contains ids id) → Contains (x ∷ ids) id
    go true e is more = subst (Contains (x ∷ ids)) (same_id x id e) (at_head x ids)
    go false e is more = at_tail x ids id (more is)
