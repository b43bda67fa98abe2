-- Merge bases and descriptions are unique.
use Rattle.std.proofs.Common.{◌≡◌, ℕ, zero, suc, ◌<◌, ◌≤◌, ℤ, ◌<ℤ◌, Bool, true, false, List, [], ◌∷◌, ◌++◌, length, take, drop, filter, sym, refl, ap, ap₂, ◌∙◌, subst, arith, ◌⊎◌, inl, inr, Option, Some, None}
use Rattle.std.specs.Prelude.{MatchOption}
use Rattle.std.specs.List.{slice_get}
use Rattle.std.specs.Ordering.{ordering_reverse}
use Rattle.std.specs.declared.cmp.Ordering.{Ordering}
use Rattle.std.specs.declared.cmp.Ordering.TheVariants.{Less, Greater}
use Rattle.std.proofs.lemmas.Bool.{or_cases, or_left, or_right, both_ways, false≢true, cases_Bool, cases_lt, cases_order}
use Rattle.std.proofs.lemmas.Int.{ints}
use Rattle.std.proofs.lemmas.List.{take-append-le, take_all, take-append-drop}
use Rattle.std.proofs.lemmas.List.Elements.{filter-append}
use Rattle.gx_hash.specs.ObjectId.{id_cmp}
use Rattle.gx_hash.specs.ObjectIds.{id_eq, has_id}
use Rattle.gx_hash.specs.Laws.{id_cmp_total, same_id, own_id}
use Rattle.gx_hash.specs.declared.oid.ObjectId.{ObjectId}
use Rattle.gx_walk.specs.AnswerLaws.{BasesAreOneList, BasesGoBothWays, DescriptionIsOne, OctopusIsOne}
use Rattle.gx_walk.specs.Describe.{AreCandidates, BeginsSearch, EndsSearch, IsByCandidates, IsByName, IsByNearest, IsNearest, followed_by, is_named}
use Rattle.gx_walk.specs.History.{History, Reaches, time_of}
use Rattle.gx_walk.specs.MergeBase.{IsAlone, IsBase, IsCommonAncestor, IsOctopus, StandsBefore, shown_parents}
use Rattle.gx_walk.specs.Walk.{BeginsWalk, IsNext, mentions}
use Rattle.gx_walk.specs.declared.commit.sorting.CommitTimeOrder.TheVariants.{NewestFirst}
use Rattle.gx_walk.specs.declared.commit.sorting.Sorting.{Sorting}
use Rattle.gx_walk.specs.declared.commit.sorting.Sorting.TheVariants.{ByCommitTime}
use Rattle.gx_walk.specs.declared.describe.Options.{Options}
use Rattle.gx_walk.specs.declared.describe.Outcome.{Outcome}
use Rattle.gx_walk.specs.declared.describe.name_map.NameMap.{NameMap}
use Rattle.gx_walk.specs.NameMap.{name_of}
use Rattle.gx_walk.proofs.IdLemmas.{get_at, has_id_get, has_self, place_of, single, take_get}
use Rattle.gx_walk.proofs.WalkLemmas.{IsNext-unique}

-- ---- lists in a strict order

module _ (R : ObjectId → ObjectId → Type 0) (once : (x y : ObjectId) → R x y → R y x → ⊥) where
  abbrev InOrder : List ObjectId → Type 0
  InOrder xs = (i j : ℕ) (x y : ObjectId) → i < j → slice_get xs i ≡ Some x → slice_get xs j ≡ Some y → R x y

  -- the first id stands before those after it
  first_before : (x y : ObjectId) (xs : List ObjectId) → InOrder (x ∷ xs) → has_id xs y ≡ true → R x y
  first_before x y xs ordered among = let (i, here) = place_of xs y among in ordered 0 (suc i) x y (omega arith) refl here

  same_first : (x y : ObjectId) (xs ys : List ObjectId) → InOrder (x ∷ xs) → InOrder (y ∷ ys) → has_id (y ∷ ys) x ≡ true → has_id (x ∷ xs) y ≡ true → x ≡ y
  same_first x y xs ys ox oy there back = elim (or_cases _ _ there) [
    | inl e ↦ sym (same_id y x e)
    | inr x_later ↦ elim (or_cases _ _ back) [
      | inl e ↦ same_id x y e
      | inr y_later ↦ absurd (once x y (first_before x y xs ox y_later) (first_before y x ys oy x_later))
    ]
  ]

  rest_in : (x y : ObjectId) (xs ys : List ObjectId) → x ≡ y → InOrder (x ∷ xs) → (z : ObjectId) → has_id xs z ≡ true → has_id (y ∷ ys) z ≡ true → has_id ys z ≡ true
  rest_in x y xs ys same ox z among there = elim (or_cases _ _ there) [
    | inl e ↦ let before : R x z = first_before x z xs ox among in
        let own : z ≡ x = sym (same_id y z e) ∙ sym same in absurd (once x x (subst (R x) own before) (subst (R x) own before))
    | inr later ↦ later
  ]

  -- two lists of the same ids in this order are one
  one_list : (xs ys : List ObjectId) → InOrder xs → InOrder ys → ((x : ObjectId) → has_id xs x ≡ true → has_id ys x ≡ true) → ((x : ObjectId) → has_id ys x ≡ true → has_id xs x ≡ true) → xs ≡ ys
  one_list [] [] ox oy there back = refl
  one_list [] (y ∷ ys) ox oy there back = absurd (false≢true (back y (or_left _ _ (own_id y))))
  one_list (x ∷ xs) [] ox oy there back = absurd (false≢true (there x (or_left _ _ (own_id x))))
  one_list (x ∷ xs) (y ∷ ys) ox oy there back =
      let e : x ≡ y = same_first x y xs ys ox oy (there x (or_left _ _ (own_id x))) (back y (or_left _ _ (own_id y))) in
      let rest : xs ≡ ys = one_list xs ys (λ i j a b lt p q. ox (suc i) (suc j) a b (omega (arith, lt)) p q) (λ i j a b lt p q. oy (suc i) (suc j) a b (omega (arith, lt)) p q)
      (λ z among. rest_in x y xs ys e ox z among (there z (or_right _ _ among))) (λ z among. rest_in y x ys xs (sym e) oy z among (back z (or_right _ _ among))) in
      ap₂ (λ (a : ObjectId) (more : List ObjectId). a ∷ more) e rest

-- ---- merge bases

less_once : (x y : ObjectId) → id_cmp x y ≡ Less → id_cmp y x ≡ Less → ⊥
less_once x y h k = let e : Less ≡ Greater = sym h ∙ id_cmp_total.antisymm x y ∙ ap ordering_reverse k in cc

-- of two commits, only one stands before the other
stands_once : (t u : ℤ) (x y : ObjectId) → StandsBefore t x u y → StandsBefore u y t x → ⊥
stands_once t u x y (inl a) (inl b) = grind (arith, ints)
stands_once t u x y (inl a) (inr (e, b)) = grind (arith, ints)
stands_once t u x y (inr (e, a)) (inl b) = grind (arith, ints)
stands_once t u x y (inr (e, a)) (inr (f, b)) = less_once x y a b

alone_or : (one : ObjectId) (others : List ObjectId) → IsAlone one others ⊎ (IsAlone one others → ⊥)
alone_or one [] = inl (inl refl)
alone_or one (o ∷ os) = elim (cases_Bool (has_id (o ∷ os) one)) [ inl among ↦ inl (inr among) | inr apart ↦ inr (never apart) ] where
  never : has_id (o ∷ os) one ≡ false → IsAlone one (o ∷ os) → ⊥
  never apart (inl none) = cc
  never apart (inr among) = both_ways _ apart among

pub bases_are_one_list : BasesAreOneList
bases_are_one_list history shallow one others a b are also = elim (alone_or one others) [
  | inl alone ↦ are.alone alone ∙ sym (also.alone alone)
  | inr apart ↦
      let p = are.listed apart in
      let q = also.listed apart in
      one_list (λ x y. StandsBefore (time_of history x) x (time_of history y) y) (λ x y. stands_once (time_of history x) (time_of history y) x y) a b p.ordered q.ordered
      (λ x h. (q.exact x).1 ((p.exact x).0 h)) (λ x h. (p.exact x).1 ((q.exact x).0 h))
]

one_of_two : (one two : ObjectId) → IsAlone two (one ∷ []) → one ≡ two
one_of_two one two (inl none) = cc
one_of_two one two (inr among) = single one two among

swap_common : (follow : ObjectId → List ObjectId) (one two x : ObjectId) → IsCommonAncestor follow one (two ∷ []) x → IsCommonAncestor follow two (one ∷ []) x
swap_common follow one two x c = record { of_one = c.of_others; of_others = c.of_one }

swap_base : (follow : ObjectId → List ObjectId) (one two x : ObjectId) → IsBase follow one (two ∷ []) x → IsBase follow two (one ∷ []) x
swap_base follow one two x base = record { common = swap_common follow one two x base.common; best = λ y c r. base.best y (swap_common follow two one y c) r }

pub bases_go_both_ways : BasesGoBothWays
bases_go_both_ways history shallow one two bases are = record {
  alone = λ h. let e = one_of_two one two h in are.alone (inr (subst (λ w. has_id (two ∷ []) w ≡ true) (sym e) (has_self two))) ∙ ap (λ w. w ∷ []) e;
  listed = λ apart.
      let p = are.listed (λ h. apart (inr (subst (λ w. has_id (one ∷ []) w ≡ true) (sym (one_of_two two one h)) (has_self one)))) in
      record {
        exact = λ x. (λ h. swap_base (shown_parents history shallow) one two x ((p.exact x).0 h), λ m. (p.exact x).1 (swap_base (shown_parents history shallow) two one x m));
        ordered = p.ordered;
      };
}

same_match : (a b : Option ObjectId) (P Q : ObjectId → Type 0) (o : Option ObjectId) → ((base : ObjectId) → P base → Q base → a ≡ b) → MatchOption o (a ≡ None) P → MatchOption o (b ≡ None) Q → a ≡ b
same_match a b P Q None same p q = p ∙ sym q
same_match a b P Q (Some base) same p q = same base p q

pub octopus_is_one : OctopusIsOne
octopus_is_one history shallow one [] a b p q = p ∙ sym q
octopus_is_one history shallow one (other ∷ others) a b (xs, are, p) (ys, also, q) =
    let e : xs ≡ ys = bases_are_one_list history shallow one (other ∷ []) xs ys are also in
    same_match a b (λ base. IsOctopus history shallow base others a) (λ base. IsOctopus history shallow base others b) (slice_get ys 0)
    (λ base. octopus_is_one history shallow base others a b)
    (subst (λ w. MatchOption (slice_get w 0) (a ≡ None) (λ base. IsOctopus history shallow base others a)) e p) q

-- ---- descriptions

nearest_is_one : (follow : ObjectId → List ObjectId) (id : ObjectId) (among : List ObjectId) (x y : ObjectId) (m n : ℕ)
    → IsNearest follow id among x m → IsNearest follow id among y n → (x ≡ y) × (m ≡ n)
nearest_is_one follow id among x y m n p q =
    let le : m ≤ n = p.least q.place y n q.here q.depth_is in
    let ge : n ≤ m = q.least p.place x m p.here p.depth_is in
    elim (cases_order p.place q.place) [
      | inl e ↦
          let both : Some x ≡ Some y = sym p.here ∙ ap (slice_get among) e ∙ q.here in
          (cc, omega arith)
      | inr (inl lt) ↦ let less : n < m = q.first p.place x m lt p.here p.depth_is in absurd (omega arith)
      | inr (inr gt) ↦ let less : m < n = p.first q.place y n gt q.here q.depth_is in absurd (omega arith)
    ]

module _ (follow : ObjectId → List ObjectId) (time : ObjectId → ℤ) (sorting : Sorting) (Admits : ObjectId → Type 0) (tips : List ObjectId) where
  -- two lists that a walk begins with are alike as far as both go
  begun_alike : (a b : List ObjectId) → BeginsWalk follow time sorting Admits tips a → BeginsWalk follow time sorting Admits tips b → (n : ℕ) → n ≤ length a → n ≤ length b → take n a ≡ take n b
  begun_alike a b pa pb zero la lb = refl
  begun_alike a b pa pb (suc n) la lb =
      let same : take n a ≡ take n b = begun_alike a b pa pb n (omega (arith, la)) (omega (arith, lb)) in
      let (x, at_x) = get_at a n (omega (arith, la)) in
      let (y, at_y) = get_at b n (omega (arith, lb)) in
      let e : x ≡ y = IsNext-unique follow time sorting Admits tips (take n b) x y (subst (λ w. IsNext follow time sorting Admits tips w x) same (pa n x at_x)) (pb n y at_y) in
      take_get a n x at_x ∙ ap₂ (λ (xs : List ObjectId) (w : ObjectId). xs ++ w ∷ []) same e ∙ sym (take_get b n y at_y)

module _ (follow : ObjectId → List ObjectId) (time : ObjectId → ℤ) (id : ObjectId) (names : NameMap) (most : ℕ) where
  -- what the shorter search found is found by the longer one, which goes on from there
  candidates_in : (x y v w : List ObjectId) → BeginsSearch follow time id v → BeginsSearch follow time id w → x ≡ take most (filter (is_named names) v) → y ≡ take most (filter (is_named names) w)
      → (length x < most → EndsSearch follow time id v) → length v ≤ length w → x ≡ y
  candidates_in x y v w pv pw is_x is_y whole le =
      let self : length v ≤ length v = omega arith in
      let front : v ≡ take (length v) w = sym (take_all (length v) v self) ∙ begun_alike follow time (ByCommitTime NewestFirst) (λ _. Unit {0}) (id ∷ []) v w pv pw (length v) self le in
      let rest : List ObjectId = drop (length v) w in
      let split : w ≡ v ++ rest = sym (take-append-drop (length v) w) ∙ ap (λ u. u ++ rest) (sym front) in
      elim (cases_lt (length (filter (is_named names) v)) most) [
        | inl few ↦
            let few_of : length (filter (is_named names) v) ≤ most = omega arith in
            let all : x ≡ filter (is_named names) v = is_x ∙ take_all most (filter (is_named names) v) few_of in
            let short : length x < most = omega (arith, ap length all) in
            elim (cases_lt (length v) (length w)) [
              | inl more ↦
                  let (z, at_z) = get_at w (length v) more in
                  let next : IsNext follow time (ByCommitTime NewestFirst) (λ _. Unit {0}) (id ∷ []) v z = subst (λ u. IsNext follow time (ByCommitTime NewestFirst) (λ _. Unit {0}) (id ∷ []) u z) (sym front) (pw (length v) z at_z) in
                  absurd (both_ways _ next.unlisted (whole short z (has_id_get (mentions follow (id ∷ []) v) next.place z next.here) tt))
              | inr same ↦
                  let e : v ≡ w = front ∙ take_all (length v) w same in
                  is_x ∙ ap (λ u. take most (filter (is_named names) u)) e ∙ sym is_y
            ]
        | inr many ↦
            let parts = filter-append (is_named names) v rest in
            is_x ∙ sym (is_y ∙ ap (λ u. take most (filter (is_named names) u)) split ∙ ap (take most) parts ∙ take-append-le most (filter (is_named names) v) (filter (is_named names) rest) many)
      ]

  candidates_are_one : (x y : List ObjectId) → AreCandidates follow time id names most x → AreCandidates follow time id names most y → x ≡ y
  candidates_are_one x y p q = elim (cases_lt (length q.walk) (length p.walk)) [
    | inl lt ↦ let le : length q.walk ≤ length p.walk = omega arith in sym (candidates_in y x q.walk p.walk q.begins p.begins q.first p.first q.whole le)
    | inr ge ↦ candidates_in x y p.walk q.walk p.begins q.begins p.first q.first p.whole ge
  ]

by_nearest_is_one : (follow : ObjectId → List ObjectId) (options : Options) (id : ObjectId) (among : List ObjectId) (a b : Option Outcome) → IsByNearest follow options id among a → IsByNearest follow options id among b → a ≡ b
by_nearest_is_one follow options id [] a b p q = p ∙ sym q
by_nearest_is_one follow options id (c ∷ cs) a b (x, m, nx, p) (y, n, ny, q) =
    let (e, f) = nearest_is_one follow id (c ∷ cs) x y m n nx ny in
    p ∙ ap₂ (λ (w : ObjectId) (far : ℕ). Some (record { name = name_of options.names w; id = id; depth = far })) e f ∙ sym q

by_candidates_is_one : (follow : ObjectId → List ObjectId) (time : ObjectId → ℤ) (options : Options) (id : ObjectId) (a b : Option Outcome) → IsByCandidates follow time options id a → IsByCandidates follow time options id b → a ≡ b
by_candidates_is_one follow time options id a b (x, cx, p) (y, cy, q) =
    let e : x ≡ y = candidates_are_one follow time id options.names options.max_candidates x y cx cy in
    by_nearest_is_one follow options id y a b (subst (λ w. IsByNearest follow options id w a) e p) q

by_name_is_one : (follow : ObjectId → List ObjectId) (time : ObjectId → ℤ) (options : Options) (id : ObjectId) (own : Option (List ℕ)) (a b : Option Outcome) → IsByName follow time options id own a → IsByName follow time options id own b → a ≡ b
by_name_is_one follow time options id (Some own) a b p q = p ∙ sym q
by_name_is_one follow time options id None a b p q = by_candidates_is_one follow time options id a b p q

pub description_is_one : DescriptionIsOne
description_is_one history is_shallow options id a b p q = by_name_is_one (followed_by history options is_shallow) (time_of history) options id (name_of options.names id) a b p q
