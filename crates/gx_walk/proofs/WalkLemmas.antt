-- What holds of every walk.
use Rattle.std.proofs.Common.{◌≡◌, ℕ, zero, suc, ◌<◌, ◌≤◌, ℤ, true, List, [], ◌∷◌, ◌++◌, length, take, drop, sym, refl, ap, ◌∙◌, subst, arith, ◌⊎◌, inl, inr, Some}
use Rattle.std.specs.List.{slice_get}
use Rattle.std.specs.Prelude.{◌↔◌}
use Rattle.std.proofs.lemmas.Bool.{or_cases, or_left, or_right, both_ways, false≢true, cases_lt}
use Rattle.std.proofs.lemmas.List.{take-append-le, take_all, take-append-drop}
use Rattle.std.proofs.lemmas.Int.{ints}
use Rattle.std.proofs.lemmas.Option.{slice_get_cases}
use Rattle.gx_hash.specs.declared.oid.ObjectId.{ObjectId}
use Rattle.gx_hash.specs.ObjectIds.{has_id}
use Rattle.gx_walk.specs.Walk.{mentions, PrecedesByTime, Precedes, IsNext, BeginsWalk, IsExhausted, IsWalk, ReachesThrough, start, step}
use Rattle.gx_walk.specs.declared.commit.sorting.CommitTimeOrder.{CommitTimeOrder}
use Rattle.gx_walk.specs.declared.commit.sorting.CommitTimeOrder.TheVariants.{NewestFirst, OldestFirst}
use Rattle.gx_walk.specs.declared.commit.sorting.Sorting.{Sorting}
use Rattle.gx_walk.specs.declared.commit.sorting.Sorting.TheVariants.{BreadthFirst, ByCommitTime, ByCommitTimeCutoff}
use Rattle.gx_walk.proofs.IdLemmas.{has_id-append, has_id_get, has_id_take, single, has_id_flat_map, has_id_flat_map_from, get_push, take_push, get_at, take_get}

by_time_once : (order : CommitTimeOrder) (t u : ℤ) (i j : ℕ) → PrecedesByTime order t i u j → PrecedesByTime order u j t i → i ≡ j
by_time_once NewestFirst t u i j h k = grind (arith, ints)
by_time_once OldestFirst t u i j h k = grind (arith, ints)

-- of two places, only one goes before the other
Precedes_once : (sorting : Sorting) (t u : ℤ) (i j : ℕ) → Precedes sorting t i u j → Precedes sorting u j t i → i ≡ j
Precedes_once BreadthFirst t u i j h k = omega arith
Precedes_once (ByCommitTime order) t u i j h k = by_time_once order t u i j h k
Precedes_once (ByCommitTimeCutoff order seconds) t u i j h k = by_time_once order t u i j h k

module _ (follow : ObjectId → List ObjectId) (time : ObjectId → ℤ) (sorting : Sorting) (Admits : ObjectId → Type 0) (tips : List ObjectId) where
  -- a list that the walk may begin with, and the commit that comes next
  pub BeginsWalk-push : (listed : List ObjectId) (x : ObjectId) → BeginsWalk follow time sorting Admits tips listed → IsNext follow time sorting Admits tips listed x → BeginsWalk follow time sorting Admits tips (listed ++ x ∷ [])
  BeginsWalk-push listed x begins next i y h = elim (get_push listed x i y h) [
    | inl both ↦ let lt = both.0 in let le : i ≤ length listed = omega arith in rw take-append-le (begins i y both.1)
    | inr both ↦ rw (both.0, take_push) (subst (λ w. IsNext follow time sorting Admits tips listed w) both.1 next)
  ]

  -- the next commit is one
  pub IsNext-unique : (listed : List ObjectId) (x y : ObjectId) → IsNext follow time sorting Admits tips listed x → IsNext follow time sorting Admits tips listed y → x ≡ y
  IsNext-unique listed x y nx ny =
      let e = Precedes_once sorting (time x) (time y) nx.place ny.place (nx.best ny.place y ny.here ny.admitted ny.unlisted) (ny.best nx.place x nx.here nx.admitted nx.unlisted) in
      let moved : slice_get (mentions follow tips listed) ny.place ≡ Some x = subst (λ p. slice_get (mentions follow tips listed) p ≡ Some x) e nx.here in
      let both : Some x ≡ Some y = sym moved ∙ ny.here in cc

  -- what is mentioned and admitted is reached, if what is listed is
  mention_reached : (listed : List ObjectId) (y : ObjectId) → ((x : ObjectId) → has_id listed x ≡ true → ReachesThrough Admits follow tips x) → has_id (mentions follow tips listed) y ≡ true → Admits y → ReachesThrough Admits follow tips y
  mention_reached listed y all among admitted = elim (or_cases _ _ (rw has_id-append at among)) [
    | inl tip ↦ start tip admitted
    | inr later ↦ let (x, of, parent) = has_id_flat_map follow listed y later in step (all x of) parent admitted
  ]

  -- what is reached through admitted commits is admitted
  pub reached_admitted : {x : ObjectId} → ReachesThrough Admits follow tips x → Admits x
  reached_admitted (start among admitted) = admitted
  reached_admitted (step before parent admitted) = admitted

  -- each admitted commit that is reached is in the whole walk
  pub walk_has_reach : (listed : List ObjectId) {x : ObjectId} → IsExhausted follow time sorting Admits tips listed → ReachesThrough Admits follow tips x → has_id listed x ≡ true
  walk_has_reach listed exhausted (start among admitted) = exhausted _ (rw has_id-append (or_left _ _ among)) admitted
  walk_has_reach listed exhausted (step {x} {y} before parent admitted) =
      exhausted _ (rw has_id-append (or_right _ _ (has_id_flat_map_from follow listed x y (walk_has_reach listed exhausted before) parent))) admitted

  -- what stands in the front of a walk's list, or at its end
  front_cases : (listed : List ObjectId) (n : ℕ) (x : ObjectId) → has_id (take (suc n) listed) x ≡ true → (has_id (take n listed) x ≡ true) ⊎ (slice_get listed n ≡ Some x)
  front_cases listed n x h = elim (slice_get_cases listed n).1 [
    | inl here ↦
        let both = or_cases (has_id (take n listed) x) (has_id (here.0 ∷ []) x) (sym (has_id-append (take n listed) (here.0 ∷ []) x) ∙ subst (λ w. has_id w x ≡ true) (take_get listed n here.0 here.2) h) in
        elim both [ inl before ↦ inl before | inr last ↦ inr (here.2 ∙ ap (λ w. Some w) (single here.0 x last)) ]
    | inr past ↦
        let le = past.0 in
        let more : length listed ≤ suc n = omega arith in
        inl (subst (λ w. has_id w x ≡ true) (sym (take_all n listed le)) (subst (λ w. has_id w x ≡ true) (take_all (suc n) listed more) h))
  ]

  -- what a walk begins with is reached through admitted commits
  begins_reached : (listed : List ObjectId) → BeginsWalk follow time sorting Admits tips listed → (n : ℕ) (x : ObjectId) → has_id (take n listed) x ≡ true → ReachesThrough Admits follow tips x
  begins_reached listed begins zero x among = absurd (none listed among) where
    none : (xs : List ObjectId) → has_id (take 0 xs) x ≡ true → ⊥
    none [] h = false≢true h
    none (y ∷ ys) h = false≢true h
  begins_reached listed begins (suc n) x among = elim (front_cases listed n x among) [
    | inl before ↦ begins_reached listed begins n x before
    | inr here ↦
        let next = begins n x here in
        mention_reached (take n listed) x (λ y h. begins_reached listed begins n y h) (has_id_get _ next.place x next.here) next.admitted
  ]

  pub listed_reached : (listed : List ObjectId) → BeginsWalk follow time sorting Admits tips listed → (x : ObjectId) → has_id listed x ≡ true → ReachesThrough Admits follow tips x
  listed_reached listed begins x among = begins_reached listed begins (length listed) x (let all : length listed ≤ length listed = omega arith in rw take_all among)

  -- the whole walk lists exactly what is reached through admitted commits
  pub IsWalk-lists_reach : (listed : List ObjectId) → IsWalk follow time sorting Admits tips listed → (x : ObjectId) → (has_id listed x ≡ true) ↔ ReachesThrough Admits follow tips x
  IsWalk-lists_reach listed walk x = (listed_reached listed walk.begins x, λ reached. walk_has_reach listed walk.exhausted reached)

  -- a walk lists no id twice
  pub begins_once : (listed : List ObjectId) → BeginsWalk follow time sorting Admits tips listed → (i j : ℕ) (x : ObjectId) → i < j → slice_get listed i ≡ Some x → slice_get listed j ≡ Some x → ⊥
  begins_once listed begins i j x lt at_i at_j = both_ways _ (begins j x at_j).unlisted (has_id_take listed j i x lt at_i)

  -- what a walk begins with is the front of the whole walk
  same_front : (part whole : List ObjectId) → BeginsWalk follow time sorting Admits tips part → IsWalk follow time sorting Admits tips whole → (n : ℕ) → n ≤ length part → (n ≤ length whole) × (take n whole ≡ take n part)
  same_front part whole begins walk zero le = (omega arith, refl)
  same_front part whole begins walk (suc n) le =
      let (before, same) = same_front part whole begins walk n (omega arith) in
      let (x, at_x) = get_at part n (omega arith) in
      let next = begins n x at_x in
      elim (cases_lt n (length whole)) [
        | inl lt ↦
            let (y, at_y) = get_at whole n lt in
            let e : y ≡ x = IsNext-unique (take n part) y x (subst (λ w. IsNext follow time sorting Admits tips w y) same (walk.begins n y at_y)) next in
            (omega arith, take_get whole n y at_y ∙ ap (λ w. w ++ y ∷ []) same ∙ ap (λ w. take n part ++ w ∷ []) e ∙ sym (take_get part n x at_x))
        | inr past ↦
            let is_part : take n part ≡ whole = sym same ∙ take_all n whole past in
            absurd (both_ways _ next.unlisted (subst (λ w. has_id w x ≡ true) (sym is_part)
            (walk.exhausted x (subst (λ w. has_id (mentions follow tips w) x ≡ true) is_part (has_id_get _ next.place x next.here)) next.admitted)))
      ]

  pub walk_goes_on : (part whole : List ObjectId) → BeginsWalk follow time sorting Admits tips part → IsWalk follow time sorting Admits tips whole → (rest : List ObjectId) × (whole ≡ part ++ rest)
  walk_goes_on part whole begins walk =
      let (le, same) = same_front part whole begins walk (length part) (omega arith) in
      let all : length part ≤ length part = omega arith in
      (drop (length part) whole, sym (take-append-drop (length part) whole) ∙ ap (λ w. w ++ drop (length part) whole) (same ∙ take_all (length part) part all))

-- ---- the same walk by another test of what is admitted

module _ (follow : ObjectId → List ObjectId) (time : ObjectId → ℤ) (sorting : Sorting) (Admits Others : ObjectId → Type 0) (tips : List ObjectId) where
  -- where both admit the same of what is mentioned, the next commit is the same
  pub IsNext-by : (listed : List ObjectId) (x : ObjectId)
      → ((y : ObjectId) → has_id (mentions follow tips listed) y ≡ true → Admits y → Others y)
      → ((y : ObjectId) → has_id (mentions follow tips listed) y ≡ true → Others y → Admits y)
      → IsNext follow time sorting Admits tips listed x → IsNext follow time sorting Others tips listed x
  IsNext-by listed x there back next = record {
    place = next.place;
    here = next.here;
    admitted = there x (has_id_get _ next.place x next.here) next.admitted;
    unlisted = next.unlisted;
    best = λ j y at_y other fresh. next.best j y at_y (back y (has_id_get _ j y at_y) other) fresh;
  }

  -- what is mentioned by the front is mentioned by the list
  pub mentioned_front : (listed : List ObjectId) (n : ℕ) (y : ObjectId) → has_id (mentions follow tips (take n listed)) y ≡ true → has_id (mentions follow tips listed) y ≡ true
  mentioned_front listed n y h = elim (or_cases _ _ (rw has_id-append at h)) [
    | inl tip ↦ rw has_id-append (or_left _ _ tip)
    | inr later ↦
        let (x, of, parent) = has_id_flat_map follow (take n listed) y later in
        rw has_id-append (or_right _ _ (has_id_flat_map_from follow listed x y (among listed n x of) parent))
  ]
    where
      among : (xs : List ObjectId) (n : ℕ) (x : ObjectId) → has_id (take n xs) x ≡ true → has_id xs x ≡ true
      among xs n x h = subst (λ w. has_id w x ≡ true) (take-append-drop n xs) (has_id-append (take n xs) (drop n xs) x ∙ or_left (has_id (take n xs) x) (has_id (drop n xs) x) h)

  pub BeginsWalk-by : (listed : List ObjectId)
      → ((y : ObjectId) → has_id (mentions follow tips listed) y ≡ true → Admits y → Others y)
      → ((y : ObjectId) → has_id (mentions follow tips listed) y ≡ true → Others y → Admits y)
      → BeginsWalk follow time sorting Admits tips listed → BeginsWalk follow time sorting Others tips listed
  BeginsWalk-by listed there back begins i x h = IsNext-by (take i listed) x
      (λ y m. there y (mentioned_front listed i y m)) (λ y m. back y (mentioned_front listed i y m)) (begins i x h)

  pub IsWalk-by : (listed : List ObjectId)
      → ((y : ObjectId) → has_id (mentions follow tips listed) y ≡ true → Admits y → Others y)
      → ((y : ObjectId) → has_id (mentions follow tips listed) y ≡ true → Others y → Admits y)
      → IsWalk follow time sorting Admits tips listed → IsWalk follow time sorting Others tips listed
  IsWalk-by listed there back walk = record {
    begins = BeginsWalk-by listed there back walk.begins;
    exhausted = λ x among other. walk.exhausted x among (back x among other);
  }
