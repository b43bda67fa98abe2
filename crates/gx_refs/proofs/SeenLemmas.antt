-- Names that were seen: which are new, and what is known where one is not.
use Rattle.std.proofs.Common.{◌≡◌, ◌∙◌, sym, ap, refl, subst, ℕ, suc, zero, Bool, true, false, cond, ◌||◌, ◌<◌, ◌+◌, List, [], ◌∷◌, ◌++◌, length, take, drop, get_or, inl, inr, ◌⊎◌, Contains, arith, append_assoc}
use Rattle.std.proofs.lemmas.List.Elements.{Contains-append_left, Contains-append_right, Contains-push}
use Rattle.std.proofs.lemmas.Grind.{flat_map-append}
use Rattle.std.specs.List.{flat_map, AllByRecursion}
use Rattle.std.specs.Str.{bytes_eq}
use Rattle.std.specs.BTreeSet.{BTreeSet, contains}
use Rattle.std.specs.BTreeMap.{is_at}
use Rattle.std.specs.Cmp.Lexicographic.{texts_ties}
use Rattle.gx_rules.specs.Name.{name_cmp}
use Rattle.gx_refs.specs.Chain.{is_among, AreDistinct}
use Rattle.gx_refs.proofs.NameLemmas.{distinct_more, distinct_new, same_name, own_name, neither}
use Rattle.gx_refs.specs.Seen.{HasSeen, AreNew, passed_by, passed, passed_names, IsTwice, TwiceAmong, HaveDistinctWays, Meet, SharedCauses}
use Rattle.gx_refs.specs.declared.error.RefError.{RefError}
use Rattle.gx_refs.specs.declared.error.RefError.TheVariants as refusal
use Rattle.gx_refs.specs.Plan.{places_of, stored_names, names_of, touched_by, touched, touched_names, Share, ShareNone}
use Rattle.gx_refs.specs.declared.edit.Change.{Change}
use Rattle.gx_refs.specs.declared.edit.Change.TheVariants.{Update, Delete}
use Rattle.gx_refs.specs.declared.plan.Place.{Place}
use Rattle.gx_refs.specs.declared.plan.Plan.{Plan}
use Rattle.gx_refs.proofs.ChangeLemmas.{split_at, contains_at}
use Rattle.gx_refs.proofs.EditLemmas.{among_append, map_append}

put_last : (t b : Bool) → cond t true b ≡ (b || (t || false))
put_last true true = refl
put_last true false = refl
put_last false true = refl
put_last false false = refl

pub seen_more : (old new : BTreeSet (List ℕ)) (names : List (List ℕ)) (key name : List ℕ) → key ≡ name → ((q : List ℕ) → contains name_cmp new q ≡ cond (is_at (name_cmp key) q) true (contains name_cmp old q)) → contains name_cmp old key ≡ false → HasSeen old names → HasSeen new (names ++ name ∷ [])
seen_more old new names key name is h first seen = record {
  each = λ q. h q ∙ ap (λ t. cond t true (contains name_cmp old q)) (sym (texts_ties key q)) ∙ ap (λ k. cond (bytes_eq k q) true (contains name_cmp old q)) is
      ∙ put_last (bytes_eq name q) (contains name_cmp old q) ∙ ap (λ b. b || (bytes_eq name q || false)) (seen.each q) ∙ sym (among_append q names (name ∷ []));
  distinct = distinct_more names name seen.distinct (sym (seen.each name) ∙ ap (contains name_cmp old) (sym is) ∙ first);
}

-- ---- touched names that stand once, and passed names that are not among them

or_left : (a b : Bool) → a ≡ true → (a || b) ≡ true
or_left true b e = refl
or_left false b e = let clash : true ≡ false = sym e in cc

or_right : (a b : Bool) → b ≡ true → (a || b) ≡ true
or_right true b e = refl
or_right false b e = e

or_cases : (a b : Bool) → (a || b) ≡ true → (a ≡ true) ⊎ (b ≡ true)
or_cases true b e = inl refl
or_cases false b e = inr e

clash : (b : Bool) → b ≡ true → b ≡ false → ⊥
clash b e f = let h : true ≡ false = sym e ∙ f in cc

among_left : (name : List ℕ) (xs ys : List (List ℕ)) → is_among name xs ≡ true → is_among name (xs ++ ys) ≡ true
among_left name xs ys e = among_append name xs ys ∙ or_left _ _ e

among_right : (name : List ℕ) (xs ys : List (List ℕ)) → is_among name ys ≡ true → is_among name (xs ++ ys) ≡ true
among_right name xs ys e = among_append name xs ys ∙ or_right _ _ e

new_at : (others names : List (List ℕ)) (name : List ℕ) → AreNew others names → is_among name names ≡ true → is_among name others ≡ false
new_at others [] name a e = let h : true ≡ false = sym e in cc
new_at others (x ∷ names) name a e = go (new_at others names name a.1) (or_cases (bytes_eq x name) (is_among name names) e)
  where
    go : (is_among name names ≡ true → is_among name others ≡ false) → (bytes_eq x name ≡ true) ⊎ (is_among name names ≡ true) → is_among name others ≡ false
    go rest (inl h) = ap (λ n. is_among n others) (sym (same_name x name h)) ∙ a.0
    go rest (inr h) = rest h

disjoint : (xs ys : List (List ℕ)) (name : List ℕ) → AreDistinct (xs ++ ys) → is_among name xs ≡ true → is_among name ys ≡ true → ⊥
disjoint [] ys name d e f = clash false e refl
disjoint (x ∷ xs) ys name d e f = go (disjoint xs ys name d.1) (or_cases (bytes_eq x name) (is_among name xs) e)
  where
    go : (is_among name xs ≡ true → is_among name ys ≡ true → ⊥) → (bytes_eq x name ≡ true) ⊎ (is_among name xs ≡ true) → ⊥
    go rest (inl h) = clash (is_among x (xs ++ ys)) (among_right x xs ys (ap (λ n. is_among n ys) (same_name x name h) ∙ f)) d.0
    go rest (inr h) = rest h f

distinct_right : (xs ys : List (List ℕ)) → AreDistinct (xs ++ ys) → AreDistinct ys
distinct_right [] ys d = d
distinct_right (x ∷ xs) ys d = distinct_right xs ys d.1

-- a name on the way is touched or passed
on_way : (plan : Plan) (change : Change) (name : List ℕ) → is_among name (names_of plan.way) ≡ true → (is_among name (stored_names (touched_by change plan.way)) ≡ true) ⊎ (is_among name (stored_names (passed_by change plan.way)) ≡ true)
on_way plan (Update log expected new) name e = inl e
on_way plan (Delete expected log) name e =
    put (or_cases (is_among name (stored_names plan.way.before)) (is_among name (plan.way.end.name ∷ []))
    (sym (ap (is_among name) (map_append (λ (place : Place). place.name) plan.way.before (plan.way.end ∷ [])) ∙ among_append name (stored_names plan.way.before) (plan.way.end.name ∷ [])) ∙ e))
  where
    put : (is_among name (stored_names plan.way.before) ≡ true) ⊎ (is_among name (plan.way.end.name ∷ []) ≡ true) → (is_among name (plan.way.end.name ∷ []) ≡ true) ⊎ (is_among name (stored_names plan.way.before) ≡ true)
    put (inl h) = inr h
    put (inr h) = inl h

abbrev Never : List (List ℕ) → List (List ℕ) → Type 0
Never xs ys = (name : List ℕ) → is_among name xs ≡ true → is_among name ys ≡ true → ⊥

apart : (plan : Plan) (others : List Plan) → Never (touched_names plan) (flat_map touched_names others) → Never (passed_names plan) (flat_map touched_names others) → AllByRecursion (λ other. Never (passed_names other) (touched_names plan)) others → AllByRecursion (λ other. (name : List ℕ) → ¬ Share plan other name) others
apart plan [] t p o = tt
apart plan (other ∷ others) t p o = (
  λ name share. either name share,
  apart plan others (λ name e f. t name e (among_right name (touched_names other) (flat_map touched_names others) f)) (λ name e f. p name e (among_right name (touched_names other) (flat_map touched_names others) f)) o.1,
)
  where
    one : (name : List ℕ) → is_among name (touched_names other) ≡ true → (is_among name (touched_names plan) ≡ true) ⊎ (is_among name (passed_names plan) ≡ true) → ⊥
    one name at (inl h) = t name h (among_left name (touched_names other) (flat_map touched_names others) at)
    one name at (inr h) = p name h (among_left name (touched_names other) (flat_map touched_names others) at)

    two : (name : List ℕ) → is_among name (touched_names plan) ≡ true → (is_among name (touched_names other) ≡ true) ⊎ (is_among name (passed_names other) ≡ true) → ⊥
    two name at (inl h) = t name at (among_left name (touched_names other) (flat_map touched_names others) h)
    two name at (inr h) = o.0 name h at

    either : (name : List ℕ) → Share plan other name → ⊥
    either name (inl (on, at)) = one name at (on_way plan plan.edit.change name on)
    either name (inr (at, on)) = two name at (on_way other other.edit.change name on)

pub share_none : (plans : List Plan) → AreDistinct (flat_map touched_names plans) → AllByRecursion (λ plan. AreNew (flat_map touched_names plans) (passed_names plan)) plans → ShareNone plans
share_none [] d a = tt
share_none (plan ∷ plans) d a = (
  apart plan plans
      (λ name e f. disjoint (touched_names plan) (flat_map touched_names plans) name d e f)
      (λ name e f. clash (is_among name (touched_names plan ++ flat_map touched_names plans)) (among_right name (touched_names plan) (flat_map touched_names plans) f) (new_at (touched_names plan ++ flat_map touched_names plans) (passed_names plan) name a.0 e))
      (others plans a.1),
  share_none plans (distinct_right (touched_names plan) (flat_map touched_names plans) d) (narrow plans a.1),
)
  where
    others : (ps : List Plan) → AllByRecursion (λ p. AreNew (touched_names plan ++ flat_map touched_names plans) (passed_names p)) ps → AllByRecursion (λ p. Never (passed_names p) (touched_names plan)) ps
    others [] b = tt
    others (p ∷ ps) b = (λ name e f. clash (is_among name (touched_names plan ++ flat_map touched_names plans)) (among_left name (touched_names plan) (flat_map touched_names plans) f) (new_at (touched_names plan ++ flat_map touched_names plans) (passed_names p) name b.0 e), others ps b.1)

    fewer : (names : List (List ℕ)) → AreNew (touched_names plan ++ flat_map touched_names plans) names → AreNew (flat_map touched_names plans) names
    fewer [] b = tt
    fewer (n ∷ names) b = ((neither _ _ (sym (among_append n (touched_names plan) (flat_map touched_names plans)) ∙ b.0)).1, fewer names b.1)

    narrow : (ps : List Plan) → AllByRecursion (λ p. AreNew (touched_names plan ++ flat_map touched_names plans) (passed_names p)) ps → AllByRecursion (λ p. AreNew (flat_map touched_names plans) (passed_names p)) ps
    narrow [] b = tt
    narrow (p ∷ ps) b = (fewer (passed_names p) b.0, narrow ps b.1)

-- ---- a name that is not new

pub seen_twice : (old : BTreeSet (List ℕ)) (names : List (List ℕ)) (key : List ℕ) (place : Place) → key ≡ place.name → contains name_cmp old key ≡ true → HasSeen old names → is_among place.name names ≡ true
seen_twice old names key place is h seen = sym (seen.each place.name) ∙ ap (contains name_cmp old) (sym is) ∙ h

-- the name of a place among places
pub among_of : (places : List Place) (place : Place) → Contains places place → is_among place.name (stored_names places) ≡ true
among_of [] place (k, less, is) = absurd (omega (arith, less))
among_of (p ∷ places) place (zero, less, is) = or_left _ _ (ap (λ (q : Place). bytes_eq q.name place.name) is ∙ own_name place.name)
among_of (p ∷ places) place (suc k, less, is) = or_right _ _ (among_of places place (k, omega (arith, less), is))

-- of places with distinct names each is new to those before it
new_before : (places : List Place) (i : ℕ) (place : Place) → i < length places → place ≡ get_or places i place → AreDistinct (stored_names places) → is_among place.name (stored_names (take i places)) ≡ false
new_before places i place h is d =
    let parts : stored_names places ≡ stored_names (take i places) ++ place.name ∷ stored_names (drop (i + 1) places) = ap stored_names (split_at places i place h is) ∙ map_append (λ (p : Place). p.name) (take i places) (place ∷ drop (i + 1) places) in
    distinct_new (stored_names (take i places)) place.name (stored_names (drop (i + 1) places)) (subst AreDistinct parts d)

twice_at : (names : List (List ℕ)) (places : List Place) (place : Place) (e : RefError) → Contains places place → IsTwice names place e → TwiceAmong names places e
twice_at names places place (refusal.DuplicateEdit n) at h = (place, at, h)
twice_at names places place refusal.NoMemory at h = tt
twice_at names places place refusal.MissingCommitter at h = absurd h
twice_at names places place (refusal.Unwritable f) at h = absurd h
twice_at names places place (refusal.Store f) at h = absurd h
twice_at names places place (refusal.NameValidation error) at h = absurd h
twice_at names places place (refusal.Cycle n) at h = absurd h
twice_at names places place (refusal.DepthLimitExceeded n) at h = absurd h
twice_at names places place (refusal.MustExist n) at h = absurd h
twice_at names places place (refusal.MustNotExist n a) at h = absurd h
twice_at names places place (refusal.ReferenceOutOfDate n x a) at h = absurd h
twice_at names places place (refusal.NameConflict n w) at h = absurd h

-- a place among more names than its own before it
twice_less : (names more : List (List ℕ)) (place : Place) (e : RefError) → is_among place.name more ≡ false → IsTwice (names ++ more) place e → IsTwice names place e
twice_less names more place (refusal.DuplicateEdit n) new h = (h.0, go (or_cases (is_among place.name names) (is_among place.name more) (sym (among_append place.name names more) ∙ h.1)))
  where
    go : (is_among place.name names ≡ true) ⊎ (is_among place.name more ≡ true) → is_among place.name names ≡ true
    go (inl k) = k
    go (inr k) = absurd (clash (is_among place.name more) k new)
twice_less names more place refusal.NoMemory new h = tt
twice_less names more place refusal.MissingCommitter new h = absurd h
twice_less names more place (refusal.Unwritable f) new h = absurd h
twice_less names more place (refusal.Store f) new h = absurd h
twice_less names more place (refusal.NameValidation error) new h = absurd h
twice_less names more place (refusal.Cycle n) new h = absurd h
twice_less names more place (refusal.DepthLimitExceeded n) new h = absurd h
twice_less names more place (refusal.MustExist n) new h = absurd h
twice_less names more place (refusal.MustNotExist n a) new h = absurd h
twice_less names more place (refusal.ReferenceOutOfDate n x a) new h = absurd h
twice_less names more place (refusal.NameConflict n w) new h = absurd h

pub twice_in : (names : List (List ℕ)) (places : List Place) (i : ℕ) (place : Place) (e : RefError) → i < length places → place ≡ get_or places i place → AreDistinct (stored_names places) → IsTwice (names ++ stored_names (take i places)) place e → TwiceAmong names places e
twice_in names places i place e h is d t =
    twice_at names places place e (contains_at places i place h is) (twice_less names (stored_names (take i places)) place e (new_before places i place h is d) t)

-- ---- the touched places of an edit

ends_with : (plan : Plan) (before : List Place) → touched plan ≡ before ++ plan.way.end ∷ [] → touched_names plan ≡ stored_names before ++ plan.way.end.name ∷ []
ends_with plan before is = ap stored_names is ∙ map_append (λ (p : Place). p.name) before (plan.way.end ∷ [])

distinct_left : (xs ys : List (List ℕ)) → AreDistinct (xs ++ ys) → AreDistinct xs
distinct_left [] ys d = tt
distinct_left (x ∷ xs) ys d = ((neither _ _ (sym (among_append x xs ys) ∙ d.0)).0, distinct_left xs ys d.1)

more_places : (names : List (List ℕ)) (places all : List Place) (e : RefError) → ((place : Place) → Contains places place → Contains all place) → TwiceAmong names places e → TwiceAmong names all e
more_places names places all (refusal.DuplicateEdit n) f (place, at, h) = (place, f place at, h)
more_places names places all refusal.NoMemory f h = tt
more_places names places all refusal.MissingCommitter f h = absurd h
more_places names places all (refusal.Unwritable x) f h = absurd h
more_places names places all (refusal.Store x) f h = absurd h
more_places names places all (refusal.NameValidation error) f h = absurd h
more_places names places all (refusal.Cycle n) f h = absurd h
more_places names places all (refusal.DepthLimitExceeded n) f h = absurd h
more_places names places all (refusal.MustExist n) f h = absurd h
more_places names places all (refusal.MustNotExist n a) f h = absurd h
more_places names places all (refusal.ReferenceOutOfDate n x a) f h = absurd h
more_places names places all (refusal.NameConflict n w) f h = absurd h

pub distinct_before : (plan : Plan) (before : List Place) → touched plan ≡ before ++ plan.way.end ∷ [] → AreDistinct (touched_names plan) → AreDistinct (stored_names before)
distinct_before plan before is d = distinct_left (stored_names before) (plan.way.end.name ∷ []) (subst AreDistinct (ends_with plan before is) d)

pub twice_before : (names : List (List ℕ)) (plan : Plan) (before : List Place) (e : RefError) → touched plan ≡ before ++ plan.way.end ∷ [] → TwiceAmong names before e → TwiceAmong names (touched plan) e
twice_before names plan before e is t =
    more_places names before (touched plan) e (λ place at. subst (λ ps. Contains ps place) (sym is) (Contains-append_left before (plan.way.end ∷ []) place at)) t

pub twice_end : (names : List (List ℕ)) (plan : Plan) (before : List Place) (e : RefError) → touched plan ≡ before ++ plan.way.end ∷ [] → AreDistinct (touched_names plan) → IsTwice (names ++ stored_names before) plan.way.end e → TwiceAmong names (touched plan) e
twice_end names plan before e is d t =
    twice_at names (touched plan) plan.way.end e (subst (λ ps. Contains ps plan.way.end) (sym is) (Contains-push before plan.way.end))
    (twice_less names (stored_names before) plan.way.end e (distinct_new (stored_names before) plan.way.end.name [] (subst AreDistinct (ends_with plan before is) d)) t)

pub seen_touched : (seen : BTreeSet (List ℕ)) (names : List (List ℕ)) (plan : Plan) (before : List Place) → touched plan ≡ before ++ plan.way.end ∷ [] → HasSeen seen ((names ++ stored_names before) ++ plan.way.end.name ∷ []) → HasSeen seen (names ++ touched_names plan)
seen_touched seen names plan before is h =
    subst (HasSeen seen) (append_assoc names (stored_names before) (plan.way.end.name ∷ []) ∙ ap (λ xs. names ++ xs) (sym (ends_with plan before is))) h

-- ---- two edits that share a name

-- an edit that touches one of the names
toucher : (name : List ℕ) (plans : List Plan) → is_among name (flat_map touched_names plans) ≡ true → (before : List Plan) × (one : Plan) × (after : List Plan) × (plans ≡ before ++ one ∷ after) × (is_among name (touched_names one) ≡ true)
toucher name [] h = let no : true ≡ false = sym h in cc
toucher name (plan ∷ plans) h = go (or_cases (is_among name (touched_names plan)) (is_among name (flat_map touched_names plans)) (sym (among_append name (touched_names plan) (flat_map touched_names plans)) ∙ h)) (toucher name plans)
  where
    go : (is_among name (touched_names plan) ≡ true) ⊎ (is_among name (flat_map touched_names plans) ≡ true)
        → (is_among name (flat_map touched_names plans) ≡ true → (before : List Plan) × (one : Plan) × (after : List Plan) × (plans ≡ before ++ one ∷ after) × (is_among name (touched_names one) ≡ true))
        → (before : List Plan) × (one : Plan) × (after : List Plan) × (plan ∷ plans ≡ before ++ one ∷ after) × (is_among name (touched_names one) ≡ true)
    go (inl k) rest = ([], plan, plans, refl, k)
    go (inr k) rest = let r = rest k in (plan ∷ r.0, r.1, r.2, ap (λ ps. plan ∷ ps) r.3, r.4)

-- places that are touched or passed are on the way
touched_place : (plan : Plan) (change : Change) (place : Place) → Contains (touched_by change plan.way) place → Contains (places_of plan.way) place
touched_place plan (Update log expected new) place at = at
touched_place plan (Delete expected log) place at = Contains-append_right plan.way.before (plan.way.end ∷ []) place at

passed_place : (plan : Plan) (change : Change) (place : Place) → Contains (passed_by change plan.way) place → Contains (places_of plan.way) place
passed_place plan (Update log expected new) place (k, less, is) = absurd (omega (arith, less))
passed_place plan (Delete expected log) place at = Contains-append_left plan.way.before (plan.way.end ∷ []) place at

-- what an edit passes it does not touch
passed_untouched : (plan : Plan) (change : Change) (name : List ℕ) → AreDistinct (names_of plan.way) → is_among name (stored_names (passed_by change plan.way)) ≡ true → is_among name (stored_names (touched_by change plan.way)) ≡ true → ⊥
passed_untouched plan (Update log expected new) name d p t = clash false p refl
passed_untouched plan (Delete expected log) name d p t =
    disjoint (stored_names plan.way.before) (plan.way.end.name ∷ []) name (subst AreDistinct (map_append (λ (q : Place). q.name) plan.way.before (plan.way.end ∷ [])) d) p t

-- the places of an edit are on its way
on_way_of : (plan : Plan) (place : Place) → Contains (places_of plan.way) place → is_among place.name (names_of plan.way) ≡ true
on_way_of plan place at = among_of (places_of plan.way) place at

meet_before : (front : List Plan) (plan : Plan) (rest : List Plan) (place : Place) (name : List ℕ) → name ≡ place.shown → Contains (places_of plan.way) place → is_among place.name (flat_map touched_names front) ≡ true → Meet (front ++ plan ∷ rest) name
meet_before front plan rest place name shown at h =
    let t = toucher place.name front h in
    record {
      before = t.0;
      one = t.1;
      between = t.2;
      other = plan;
      after = rest;
      split = ap (λ ps. ps ++ plan ∷ rest) t.3;
      place = place;
      on_way = inr at;
      shown = shown;
      shared = inr (t.4, on_way_of plan place at);
    }

meet_after : (front : List Plan) (plan : Plan) (rest : List Plan) (place : Place) (name : List ℕ) → name ≡ place.shown → Contains (places_of plan.way) place → is_among place.name (flat_map touched_names rest) ≡ true → Meet (front ++ plan ∷ rest) name
meet_after front plan rest place name shown at h =
    let t = toucher place.name rest h in
    record {
      before = front;
      one = plan;
      between = t.0;
      other = t.1;
      after = t.2;
      split = ap (λ ps. front ++ plan ∷ ps) t.3 ∙ sym (append_assoc front (plan ∷ t.0) (t.1 ∷ t.2));
      place = place;
      on_way = inl at;
      shown = shown;
      shared = inl (on_way_of plan place at, t.4);
    }

nothing_else : (names : List (List ℕ)) (places : List Place) (plans : List Plan) (e : RefError) → ((n : List ℕ) → TwiceAmong names places (refusal.DuplicateEdit n) → SharedCauses plans (refusal.DuplicateEdit n)) → TwiceAmong names places e → SharedCauses plans e
nothing_else names places plans (refusal.DuplicateEdit n) f h = f n h
nothing_else names places plans refusal.NoMemory f h = tt
nothing_else names places plans refusal.MissingCommitter f h = absurd h
nothing_else names places plans (refusal.Unwritable x) f h = absurd h
nothing_else names places plans (refusal.Store x) f h = absurd h
nothing_else names places plans (refusal.NameValidation error) f h = absurd h
nothing_else names places plans (refusal.Cycle n) f h = absurd h
nothing_else names places plans (refusal.DepthLimitExceeded n) f h = absurd h
nothing_else names places plans (refusal.MustExist n) f h = absurd h
nothing_else names places plans (refusal.MustNotExist n a) f h = absurd h
nothing_else names places plans (refusal.ReferenceOutOfDate n x a) f h = absurd h
nothing_else names places plans (refusal.NameConflict n w) f h = absurd h

-- a touched name that an earlier edit touches
pub touched_twice : (plans : List Plan) (i : ℕ) (plan : Plan) (e : RefError) → i < length plans → plan ≡ get_or plans i plan → TwiceAmong (flat_map touched_names (take i plans)) (touched plan) e → SharedCauses plans e
touched_twice plans i plan e h is t = nothing_else (flat_map touched_names (take i plans)) (touched plan) plans e found t
  where
    found : (n : List ℕ) → TwiceAmong (flat_map touched_names (take i plans)) (touched plan) (refusal.DuplicateEdit n) → Meet plans n
    found n (place, at, (shown, among)) = subst (λ ps. Meet ps n) (sym (split_at plans i plan h is))
        (meet_before (take i plans) plan (drop (i + 1) plans) place n shown (touched_place plan plan.edit.change place at) among)

-- a place that an edit passes, and another touches
passed_at : (front : List Plan) (plan : Plan) (rest : List Plan) (n : List ℕ) (place : Place) → AreDistinct (names_of plan.way) → Contains (passed plan) place → n ≡ place.shown → is_among place.name (flat_map touched_names (front ++ plan ∷ rest)) ≡ true → Meet (front ++ plan ∷ rest) n
passed_at front plan rest n place d at shown among = go (or_cases _ _ parts)
  where
    parts : (is_among place.name (flat_map touched_names front) || is_among place.name (flat_map touched_names (plan ∷ rest))) ≡ true
    parts = sym (ap (is_among place.name) (flat_map-append touched_names front (plan ∷ rest)) ∙ among_append place.name (flat_map touched_names front) (flat_map touched_names (plan ∷ rest))) ∙ among

    on_its_way : Contains (places_of plan.way) place
    on_its_way = passed_place plan plan.edit.change place at

    later : (is_among place.name (touched_names plan) ≡ true) ⊎ (is_among place.name (flat_map touched_names rest) ≡ true) → Meet (front ++ plan ∷ rest) n
    later (inl k) = absurd (passed_untouched plan plan.edit.change place.name d (among_of (passed plan) place at) k)
    later (inr k) = meet_after front plan rest place n shown on_its_way k

    go : (is_among place.name (flat_map touched_names front) ≡ true) ⊎ (is_among place.name (flat_map touched_names (plan ∷ rest)) ≡ true) → Meet (front ++ plan ∷ rest) n
    go (inl k) = meet_before front plan rest place n shown on_its_way k
    go (inr k) = later (or_cases _ _ (sym (among_append place.name (touched_names plan) (flat_map touched_names rest)) ∙ k))

pub passed_twice : (plans : List Plan) (i : ℕ) (plan : Plan) (e : RefError) → i < length plans → plan ≡ get_or plans i plan → AreDistinct (names_of plan.way) → TwiceAmong (flat_map touched_names plans) (passed plan) e → SharedCauses plans e
passed_twice plans i plan e h is d t = nothing_else (flat_map touched_names plans) (passed plan) plans e found t
  where
    whole : plans ≡ take i plans ++ plan ∷ drop (i + 1) plans
    whole = split_at plans i plan h is

    found : (n : List ℕ) → TwiceAmong (flat_map touched_names plans) (passed plan) (refusal.DuplicateEdit n) → Meet plans n
    found n (place, at, (shown, among)) = subst (λ ps. Meet ps n) (sym whole)
        (passed_at (take i plans) plan (drop (i + 1) plans) n place d at shown (sym (ap (λ ps. is_among place.name (flat_map touched_names ps)) whole) ∙ among))

pub way_distinct : (plans : List Plan) (i : ℕ) (plan : Plan) → i < length plans → plan ≡ get_or plans i plan → HaveDistinctWays plans → AreDistinct (names_of plan.way)
way_distinct plans i plan h is d = go (take i plans) (subst HaveDistinctWays (split_at plans i plan h is) d)
  where
    go : (front : List Plan) → HaveDistinctWays (front ++ plan ∷ drop (i + 1) plans) → AreDistinct (names_of plan.way)
    go [] d = d.0
    go (p ∷ front) d = go front d.1

pub touched_apart : (plan : Plan) (change : Change) → AreDistinct (names_of plan.way) → AreDistinct (stored_names (touched_by change plan.way))
touched_apart plan (Update log expected new) d = d
touched_apart plan (Delete expected log) d = (refl, tt)

pub ruleset touching = (seen_touched, distinct_before, twice_before, twice_end)
