-- A walk that passes over what is hidden lists the walk without it.
use Rattle.std.proofs.Common.{◌≡◌, ℕ, ℤ, zero, suc, ◌≤◌, ◌<ℤ◌, List, [], ◌∷◌, ◌++◌, Bool, true, false, not, subst, sym, ap, ◌∙◌, arith, refl, inl, inr, ◌⊎◌, length, take, append-nil, Some}
use Rattle.std.specs.List.{slice_get, filter, flat_map}
use Rattle.std.specs.Prelude.{◌&&◌, ◌||◌}
use Rattle.std.proofs.lemmas.Bool.{and_from, and_parts, or_left, or_right, or_cases, false≢true, both_ways, cases_Bool, cond-true, and_right}
use Rattle.std.proofs.lemmas.List.{take_all}
use Rattle.std.proofs.lemmas.List.Elements.{filter-append}
use Rattle.std.proofs.lemmas.Int.{ints}
use Rattle.gx_hash.specs.declared.oid.ObjectId.{ObjectId}
use Rattle.gx_hash.specs.ObjectIds.{id_eq, has_id}
use Rattle.gx_hash.specs.Laws.{own_id}
use Rattle.gx_walk.specs.Walk.{mentions, PrecedesByTime, Precedes, IsNext, BeginsWalk, IsWalk}
use Rattle.gx_walk.specs.declared.commit.sorting.CommitTimeOrder.{CommitTimeOrder}
use Rattle.gx_walk.specs.declared.commit.sorting.CommitTimeOrder.TheVariants.{NewestFirst, OldestFirst}
use Rattle.gx_walk.specs.declared.commit.sorting.Sorting.{Sorting}
use Rattle.gx_walk.specs.declared.commit.sorting.Sorting.TheVariants.{BreadthFirst, ByCommitTime, ByCommitTimeCutoff}
use Rattle.gx_walk.proofs.IdLemmas.{cases_id, has_id-filter, has_id_get, place_of, get_at, take_get}
use Rattle.gx_walk.proofs.WalkLemmas.{BeginsWalk-push}

-- x stands in the list no later than y
comes : ObjectId → ObjectId → List ObjectId → Bool
comes x y [] = true
comes x y (m ∷ ms) = id_eq m x || (not (id_eq m y) && comes x y ms)

int_cases : (t u : ℤ) → (t <ℤ u) ⊎ ((t ≡ u) ⊎ (u <ℤ t))
int_cases t u = grind (arith, ints)

-- two times: places do not matter, or they alone do, or neither goes first
abbrev Outcome : (ℕ → ℕ → Type 0) → Type 0
Outcome P = ((i j : ℕ) → P i j) ⊎ ((((i j : ℕ) → P i j → i ≤ j) × ((i j : ℕ) → i ≤ j → P i j)) ⊎ ((i j : ℕ) → P i j → ⊥))

by_time : (order : CommitTimeOrder) (t u : ℤ) → Outcome (λ i j. PrecedesByTime order t i u j)
by_time NewestFirst t u = elim (int_cases t u) [
  | inl older ↦ inr (inr (λ i j h. grind (arith, ints)))
  | inr (inl same) ↦ inr (inl (λ i j h. grind (arith, ints), λ i j h. inr (same, h)))
  | inr (inr newer) ↦ inl (λ i j. inl newer)
]
by_time OldestFirst t u = elim (int_cases t u) [
  | inl older ↦ inl (λ i j. inl older)
  | inr (inl same) ↦ inr (inl (λ i j h. grind (arith, ints), λ i j h. inr (same, h)))
  | inr (inr newer) ↦ inr (inr (λ i j h. grind (arith, ints)))
]

Precedes_cases : (sorting : Sorting) (t u : ℤ) → Outcome (λ i j. Precedes sorting t i u j)
Precedes_cases BreadthFirst t u = inr (inl (λ i j h. h, λ i j h. h))
Precedes_cases (ByCommitTime order) t u = by_time order t u
Precedes_cases (ByCommitTimeCutoff order seconds) t u = by_time order t u

unfold_comes : (x y m : ObjectId) (ms : List ObjectId) → comes x y (m ∷ ms) ≡ (id_eq m x || (not (id_eq m y) && comes x y ms))
unfolding comes
unfold_comes x y m ms = refl

apart : (x m : ObjectId) → (m ≡ x → ⊥) → id_eq m x ≡ false
apart x m ne = elim (cases_id m x) [ inl e ↦ absurd (ne e) | inr f ↦ f ]

-- from places
comes_from_place : (ms : List ObjectId) (x y : ObjectId) (p : ℕ) → slice_get ms p ≡ Some x → ((j : ℕ) → slice_get ms j ≡ Some y → p ≤ j) → comes x y ms ≡ true
comes_from_place [] x y p here least = cc
comes_from_place (m ∷ ms) x y zero here least = let e : m ≡ x = cc in rw unfold_comes (or_left _ _ (subst (λ w. id_eq w x ≡ true) (sym e) (own_id x)))
comes_from_place (m ∷ ms) x y (suc p) here least =
    let rest = comes_from_place ms x y p here (λ j at_y. let le : suc p ≤ suc j = least (suc j) at_y in omega arith) in
    let ne : id_eq m y ≡ false = apart y m (λ e. let le : suc p ≤ 0 = least 0 (ap (λ w. Some w) e) in absurd (omega arith)) in
    rw (unfold_comes, ne, rest) (or_right _ _ refl)

not_true : (b : Bool) → not b ≡ true → b ≡ false
not_true true h = absurd (false≢true h)
not_true false h = refl

later : (m x : ObjectId) (ms : List ObjectId) → has_id (m ∷ ms) x ≡ true → id_eq m x ≡ false → has_id ms x ≡ true
later m x ms h ne = elim (or_cases _ _ h) [ inl e ↦ absurd (both_ways _ ne e) | inr among ↦ among ]

comes_tail : (m x y : ObjectId) (ms : List ObjectId) → comes x y (m ∷ ms) ≡ true → id_eq m x ≡ false → (id_eq m y ≡ false) × (comes x y ms ≡ true)
comes_tail m x y ms c ne =
    let both : (not (id_eq m y) && comes x y ms) ≡ true = rw (unfold_comes, ne) at c in
    let parts = and_parts (not (id_eq m y)) (comes x y ms) both in
    (not_true (id_eq m y) parts.0, parts.1)

least_place : (m x : ObjectId) (p : ℕ) (ms : List ObjectId) → id_eq m x ≡ false → ((y : ObjectId) (j : ℕ) → comes x y ms ≡ true → slice_get ms j ≡ Some y → p ≤ j) → (y : ObjectId) (j : ℕ) → comes x y (m ∷ ms) ≡ true → slice_get (m ∷ ms) j ≡ Some y → suc p ≤ j
least_place m x p ms ne least y zero c at_y = let e : m ≡ y = cc in absurd (both_ways _ (comes_tail m x y ms c ne).0 (subst (λ w. id_eq w y ≡ true) (sym e) (own_id y)))
least_place m x p ms ne least y (suc j) c at_y = let le : p ≤ j = least y j (comes_tail m x y ms c ne).1 at_y in omega arith

-- the first place
first_place : (ms : List ObjectId) (x : ObjectId) → has_id ms x ≡ true → (p : ℕ) × (slice_get ms p ≡ Some x) × ((y : ObjectId) (j : ℕ) → comes x y ms ≡ true → slice_get ms j ≡ Some y → p ≤ j)
first_place [] x h = absurd (false≢true h)
first_place (m ∷ ms) x h = elim (cases_id m x) [
  | inl e ↦ (0, ap (λ w. Some w) e, λ y j c here. omega arith)
  | inr ne ↦
      let (p, here, least) = first_place ms x (later m x ms h ne) in
      (suc p, here, least_place m x p ms ne least)
]

-- what is passed over does not matter
comes-filter : (keep : ObjectId → Bool) (x y : ObjectId) (ms : List ObjectId) → keep x ≡ true → keep y ≡ true → comes x y (filter keep ms) ≡ comes x y ms
comes-filter keep x y [] kx ky = refl
comes-filter keep x y (m ∷ ms) kx ky = elim (cases_Bool (keep m)) [
  | inl kept ↦ rw (cond-true, unfold_comes, unfold_comes, comes-filter keep x y ms kx ky) refl
  | inr passed ↦
      let mx : id_eq m x ≡ false = apart x m (λ e. both_ways (keep x) (sym (ap keep e) ∙ passed) kx) in
      let my : id_eq m y ≡ false = apart y m (λ e. both_ways (keep y) (sym (ap keep e) ∙ passed) ky) in
      rw (passed, unfold_comes, mx, my) (comes-filter keep x y ms kx ky)
]

and_one : (a b : Bool) → a ≡ true → (a && b) ≡ b
and_one true b h = refl
and_one false b h = absurd (false≢true h)

-- what the hidden mention is hidden
mentions-filter : (follow : ObjectId → List ObjectId) (keep : ObjectId → Bool) (tips : List ObjectId) → ((x y : ObjectId) → keep x ≡ false → has_id (follow x) y ≡ true → keep y ≡ false) → (listed : List ObjectId) → filter keep (mentions follow tips (filter keep listed)) ≡ filter keep (mentions follow tips listed)
mentions-filter follow keep tips closed listed = rw (filter-append, filter-append) (ap (λ w. filter keep tips ++ w) (go listed)) where
  none : (ys : List ObjectId) → ((y : ObjectId) → has_id ys y ≡ true → keep y ≡ false) → filter keep ys ≡ []
  none [] all = refl
  none (y ∷ ys) all = rw (all y (or_left _ _ (own_id y))) (none ys (λ z h. all z (or_right _ _ h)))

  go : (xs : List ObjectId) → filter keep (flat_map follow (filter keep xs)) ≡ filter keep (flat_map follow xs)
  go [] = refl
  go (x ∷ xs) = elim (cases_Bool (keep x)) [
    | inl kept ↦ rw (kept, filter-append, filter-append) (ap (λ w. filter keep (follow x) ++ w) (go xs))
    | inr passed ↦ rw (passed, filter-append, none (follow x) (λ y h. closed x y passed h)) (go xs)
  ]

module _ (follow : ObjectId → List ObjectId) (time : ObjectId → ℤ) (sorting : Sorting) (Admits : ObjectId → Type 0) (keep : ObjectId → Bool) (tips : List ObjectId) (closed : (x y : ObjectId) → keep x ≡ false → has_id (follow x) y ≡ true → keep y ≡ false) where
  abbrev Kept : ObjectId → Type 0
  Kept y = Admits y × (keep y ≡ true)

  -- the next commit, if it is kept, is the next of what is kept
  IsNext-filter : (listed : List ObjectId) (x : ObjectId) → IsNext follow time sorting Admits tips listed x → keep x ≡ true → IsNext follow time sorting Kept tips (filter keep listed) x
  IsNext-filter listed x next kept =
      let M : List ObjectId = mentions follow tips listed in
      let N : List ObjectId = mentions follow tips (filter keep listed) in
      let same : filter keep N ≡ filter keep M = mentions-filter follow keep tips closed listed in
      let carried : (y : ObjectId) → keep y ≡ true → has_id N y ≡ has_id M y = λ y ky.
      sym (and_one (keep y) (has_id N y) ky) ∙ sym (has_id-filter keep N y) ∙ ap (λ w. has_id w y) same ∙ has_id-filter keep M y ∙ and_one (keep y) (has_id M y) ky in
      let in_M : has_id M x ≡ true = has_id_get M next.place x next.here in
      let (p, here, least) = first_place N x (carried x kept ∙ in_M) in
      record {
        place = p;
        here = here;
        admitted = (next.admitted, kept);
        unlisted = has_id-filter keep listed x ∙ and_right (keep x) (has_id listed x) next.unlisted;
        best = λ j y at_y both fresh.
            let unlisted : has_id listed y ≡ false = sym (and_one (keep y) (has_id listed y) both.1) ∙ sym (has_id-filter keep listed y) ∙ fresh in
            let (k, there) = place_of M y (sym (carried y both.1) ∙ has_id_get N j y at_y) in
            let beats : (i : ℕ) → slice_get M i ≡ Some y → Precedes sorting (time x) next.place (time y) i = λ i iy. next.best i y iy both.0 unlisted in
            elim (Precedes_cases sorting (time x) (time y)) [
              | inl always ↦ always p j
              | inr (inl ties) ↦
                  let c : comes x y M ≡ true = comes_from_place M x y next.place next.here (λ i iy. ties.0 _ _ (beats i iy)) in
                  let d : comes x y N ≡ true = sym (comes-filter keep x y N kept both.1) ∙ ap (comes x y) same ∙ comes-filter keep x y M kept both.1 ∙ c in
                  ties.1 p j (least y j d at_y)
              | inr (inr never) ↦ absurd (never _ _ (beats k there))
            ];
      }

  begins_filter : (listed : List ObjectId) → BeginsWalk follow time sorting Admits tips listed → (n : ℕ) → n ≤ length listed → BeginsWalk follow time sorting Kept tips (filter keep (take n listed))
  begins_filter listed begins zero le = λ i x h. cc
  begins_filter listed begins (suc n) le =
      let before = begins_filter listed begins n (omega arith) in
      let (x, at_x) = get_at listed n (omega arith) in
      rw (take_get listed n x at_x, filter-append) (elim (cases_Bool (keep x)) [
        | inl kept ↦ rw kept (BeginsWalk-push follow time sorting Kept tips (filter keep (take n listed)) x before (IsNext-filter (take n listed) x (begins n x at_x) kept))
        | inr passed ↦ rw (passed, append-nil) before
      ])

  -- the walk without what is hidden
  pub IsWalk-filter : (listed : List ObjectId) → IsWalk follow time sorting Admits tips listed → IsWalk follow time sorting Kept tips (filter keep listed)
  IsWalk-filter listed walk = record {
    begins = let le : length listed ≤ length listed = omega arith in subst (λ w. BeginsWalk follow time sorting Kept tips (filter keep w)) (take_all _ _ le) (begins_filter listed walk.begins (length listed) le);
    exhausted = λ x among both.
        let same = mentions-filter follow keep tips closed listed in
        let in_M : has_id (mentions follow tips listed) x ≡ true =
        sym (and_one (keep x) (has_id (mentions follow tips listed) x) both.1) ∙ sym (has_id-filter keep (mentions follow tips listed) x) ∙ ap (λ w. has_id w x) (sym same) ∙ has_id-filter keep (mentions follow tips (filter keep listed)) x ∙ and_from _ _ both.1 among in
        has_id-filter keep listed x ∙ and_from _ _ both.1 (walk.exhausted x in_M both.0);
  }
