-- Plans of edits: what is known of all, and why the edits are refused.
use Rattle.std.proofs.Common.{◌≡◌, ◌∙◌, sym, ap, refl, subst, ℕ, zero, suc, ◌<◌, true, false, Bool, List, [], ◌∷◌, ◌++◌, length, get_or, append_assoc, map, Option, IfSome, IsSome, IsTrue, inl, inr, ◌⊎◌, Contains, arith}
use Rattle.std.specs.FinMap.{get}
use Rattle.std.proofs.lemmas.List.Elements.{Contains-push}
use Rattle.std.specs.List.{AllByRecursion, AllZip, flat_map}
use Rattle.gx_hash.specs.declared.kind.HashKind.{HashKind}
use Rattle.gx_store.specs.State.{StoreState, RefState}
use Rattle.gx_store.specs.declared.change.RefChange.{RefChange}
use Rattle.gx_store.specs.declared.error.What.{What}
use Rattle.gx_store.specs.declared.error.What.TheVariants as what
use Rattle.gx_refs.specs.Answering.{answers}
use Rattle.gx_refs.specs.Answer.{AreAnswers}
use Rattle.gx_refs.specs.Chain.{AreDistinct}
use Rattle.gx_refs.specs.Changing.{AreSigned, IsSigned, IsPlanOfKind, SomeChangeCauses}
use Rattle.gx_refs.specs.EditCauses.{OfEdit, OfPlan, OfTwo, WayCauses, EditWayCauses, ExpectedCauses, ChangeCauses, HasSureLine, CanSign, EditCauses, MakesConflict, MeetAt, AreMet}
use Rattle.gx_refs.specs.Edits.{AreChanges}
use Rattle.gx_refs.specs.Plan.{IsPlan, ArePlans, ArePlaces, KnowsShown, places_of, names_of, touched, touches, touches_of, touched_names, makes, ShareNone, HasRoom}
use Rattle.gx_refs.specs.Planned.{SomeWayCauses, SomeExpectedCauses, ArePlansSound, FindsKind, Readies, PlanCauses}
use Rattle.gx_refs.specs.Prepared.{Ready, Prepares, AreEditsOfKind, SetsKind}
use Rattle.gx_refs.specs.Seen.{HaveDistinctWays, Meet, SharedCauses, IsMadeBy, ConflictsWith, AllRoomCauses}
use Rattle.gx_refs.specs.Shown.{IsShown, stored_name}
use Rattle.gx_refs.specs.declared.edit.RefEdit.{RefEdit}
use Rattle.gx_refs.specs.declared.error.RefError.{RefError}
use Rattle.gx_refs.specs.declared.error.RefError.TheVariants as refusal
use Rattle.gx_refs.specs.declared.plan.Place.{Place}
use Rattle.gx_refs.specs.declared.plan.Plan.{Plan}
use Rattle.gx_refs.specs.declared.terms.Terms.{Terms}
use Rattle.gx_refs.proofs.AnswerLemmas.{answers_tell}
use Rattle.gx_refs.proofs.ChangeLemmas.{changes_make, all_at, contains_at}
use Rattle.gx_refs.proofs.PlanLemmas.{distinct_way}

-- ---- lists beside one another

contains_later : {X : Type 0} (y x : X) (xs : List X) → Contains xs x → Contains (y ∷ xs) x
contains_later y x xs (k, less, is) = (suc k, omega (arith, less), is)

pub beside : {A B : Type 0} (R : A → B → Type 0) (xs : List A) (ys : List B) (y : B) → AllZip R xs ys → Contains ys y → (x : A) × Contains xs x × R x y
beside R [] [] y z (k, less, is) = absurd (omega (arith, less))
beside R [] (b ∷ ys) y z at = absurd z
beside R (a ∷ xs) [] y z at = absurd z
beside R (a ∷ xs) (b ∷ ys) y z (zero, less, is) = (a, (zero, omega arith, refl), subst (R a) is z.0)
beside R (a ∷ xs) (b ∷ ys) y z (suc k, less, is) =
    let r = beside R xs ys y z.1 (k, omega (arith, less), is) in (r.0, contains_later a r.0 xs r.1, r.2)

-- what stands beside a part of a list
split_zip : {A B : Type 0} (R : A → B → Type 0) (xs : List A) (front : List B) (y : B) (rest : List B) → AllZip R xs (front ++ y ∷ rest) → (before : List A) × (x : A) × (after : List A) × (xs ≡ before ++ x ∷ after) × R x y × AllZip R after rest
split_zip R [] [] y rest z = absurd z
split_zip R (a ∷ xs) [] y rest z = ([], a, xs, refl, z.0, z.1)
split_zip R [] (b ∷ front) y rest z = absurd z
split_zip R (a ∷ xs) (b ∷ front) y rest z =
    let r = split_zip R xs front y rest z.1 in (a ∷ r.0, r.1, r.2, ap (λ zs. a ∷ zs) r.3, r.4, r.5)

all_of : {X Y : Type 0} (P : Y → Type 0) (f : X → Y) (xs : List X) (x : X) → AllByRecursion P (map f xs) → Contains xs x → P (f x)
all_of P f [] x a (k, less, is) = absurd (omega (arith, less))
all_of P f (y ∷ xs) x a (zero, less, is) = subst (λ z. P (f z)) is a.0
all_of P f (y ∷ xs) x a (suc k, less, is) = all_of P f xs x a.1 (k, omega (arith, less), is)

all_left : {X : Type 0} (P : X → Type 0) (xs ys : List X) → AllByRecursion P (xs ++ ys) → AllByRecursion P xs
all_left P [] ys a = tt
all_left P (x ∷ xs) ys a = (a.0, all_left P xs ys a.1)

all_right : {X : Type 0} (P : X → Type 0) (xs ys : List X) → AllByRecursion P (xs ++ ys) → AllByRecursion P ys
all_right P [] ys a = a
all_right P (x ∷ xs) ys a = all_right P xs ys a.1

-- ---- what is known of the plans

pub all_shown : (space : List ℕ) (told : Option RefState) (edits : List RefEdit) (plans : List Plan) → ArePlans space told edits plans → AllByRecursion (λ (plan : Plan). KnowsShown space plan.way) plans
all_shown space told [] [] z = tt
all_shown space told [] (p ∷ plans) z = absurd z
all_shown space told (e ∷ edits) [] z = absurd z
all_shown space told (e ∷ edits) (p ∷ plans) z = (z.0.shown, all_shown space told edits plans z.1)

pub all_distinct : (space : List ℕ) (told : Option RefState) (edits : List RefEdit) (plans : List Plan) → ArePlans space told edits plans → HaveDistinctWays plans
all_distinct space told [] [] z = tt
all_distinct space told [] (p ∷ plans) z = absurd z
all_distinct space told (e ∷ edits) [] z = absurd z
all_distinct space told (e ∷ edits) (p ∷ plans) z = (distinct_way told e.deref _ p.way z.0.way, all_distinct space told edits plans z.1)

pub all_kinds : (hash : HashKind) (space : List ℕ) (told : Option RefState) (edits : List RefEdit) (plans : List Plan) → ArePlans space told edits plans → AreEditsOfKind hash edits → AllByRecursion (FindsKind hash) plans → AllByRecursion (IsPlanOfKind hash) plans
all_kinds hash space told [] [] z k f = tt
all_kinds hash space told [] (p ∷ plans) z k f = absurd z
all_kinds hash space told (e ∷ edits) [] z k f = absurd z
all_kinds hash space told (e ∷ edits) (p ∷ plans) z k f =
    ((subst (λ (x : RefEdit). SetsKind hash x.change) (sym z.0.of_edit) k.0, f.0), all_kinds hash space told edits plans z.1 k.1 f.1)

pub sound : (state : StoreState) (terms : Terms) (edits : List RefEdit) (plans : List Plan) → ArePlans terms.space state.references edits plans → AreEditsOfKind state.hash edits → AllByRecursion (FindsKind state.hash) plans → ArePlansSound state terms plans
sound state terms edits plans ways k found = record {
  shown = all_shown terms.space state.references edits plans ways;
  distinct = all_distinct terms.space state.references edits plans ways;
  kind = all_kinds state.hash terms.space state.references edits plans ways k found;
}

pub lines_signed : (told : Option RefState) (terms : Terms) (plans : List Plan) → AreSigned told terms (touches plans) → AllByRecursion (λ plan. HasSureLine terms told plan → CanSign terms.committer) plans
lines_signed told terms [] a = tt
lines_signed told terms (plan ∷ plans) a = (
  λ line. all_of (IsSigned told terms) (λ (place : Place). record { plan = plan; place = place }) (touched plan) line.place (all_left (IsSigned told terms) (touches_of plan) (touches plans) a) line.touches line.due,
  lines_signed told terms plans (all_right (IsSigned told terms) (touches_of plan) (touches plans) a),
)

pub readies : (terms : Terms) (told : Option RefState) (plans : List Plan) (changes : List RefChange) (answer : List RefEdit) → AreMet terms.space plans → ShareNone plans → AreDistinct (flat_map touched_names plans) → AllByRecursion (λ plan. makes plan ≡ true → HasRoom told plans plan) plans → AreChanges told terms (touches plans) changes → AreSigned told terms (touches plans) → answer ≡ answers plans → Readies terms told plans (record { changes = changes; answer = answer })
readies terms told plans changes answer met apart distinct room changed signed is = record {
  accepted = record { met = met; apart = apart; room = room; signed = lines_signed told terms plans signed };
  changed = changed;
  makes = changes_make told terms plans changes changed distinct;
  answered = is;
}

pub prepares : (terms : Terms) (told : Option RefState) (edits : List RefEdit) (plans : List Plan) (ready : Ready) → ArePlans terms.space told edits plans → Readies terms told plans ready → Prepares terms told edits ready
prepares terms told edits plans ready ways r = record {
  plans = plans;
  ways = ways;
  accepted = r.accepted;
  changed = r.changed;
  makes = r.makes;
  answered = subst (AreAnswers terms.space told plans) (sym r.answered) (answers_tell terms.space told edits plans ways);
}

-- ---- one of the edits

contains_here : {X : Type 0} (front : List X) (x : X) (rest : List X) → Contains (front ++ x ∷ rest) x
contains_here [] x rest = (zero, omega arith, refl)
contains_here (y ∷ front) x rest = contains_later y x (front ++ x ∷ rest) (contains_here front x rest)

pub some_way : (space : List ℕ) (state : StoreState) (edits done : List RefEdit) (edit : RefEdit) (rest : List RefEdit) (e : RefError) → edits ≡ done ++ edit ∷ rest → EditWayCauses space state edit e → SomeWayCauses space state edits e
some_way space state edits done edit rest (refusal.Cycle n) is h = record { edit = edit; given = subst (λ xs. Contains xs edit) (sym is) (contains_here done edit rest); holds = h }
some_way space state edits done edit rest (refusal.DepthLimitExceeded n) is h = record { edit = edit; given = subst (λ xs. Contains xs edit) (sym is) (contains_here done edit rest); holds = h }
some_way space state edits done edit rest (refusal.MustExist n) is h = record { edit = edit; given = subst (λ xs. Contains xs edit) (sym is) (contains_here done edit rest); holds = h }
some_way space state edits done edit rest (refusal.MustNotExist n a) is h = record { edit = edit; given = subst (λ xs. Contains xs edit) (sym is) (contains_here done edit rest); holds = h }
some_way space state edits done edit rest (refusal.ReferenceOutOfDate n x a) is h = record { edit = edit; given = subst (λ xs. Contains xs edit) (sym is) (contains_here done edit rest); holds = h }
some_way space state edits done edit rest (refusal.NameConflict n w) is h = record { edit = edit; given = subst (λ xs. Contains xs edit) (sym is) (contains_here done edit rest); holds = h }
some_way space state edits done edit rest (refusal.DuplicateEdit n) is h = record { edit = edit; given = subst (λ xs. Contains xs edit) (sym is) (contains_here done edit rest); holds = h }
some_way space state edits done edit rest refusal.MissingCommitter is h = record { edit = edit; given = subst (λ xs. Contains xs edit) (sym is) (contains_here done edit rest); holds = h }
some_way space state edits done edit rest (refusal.Unwritable f) is h = record { edit = edit; given = subst (λ xs. Contains xs edit) (sym is) (contains_here done edit rest); holds = h }
some_way space state edits done edit rest (refusal.NameValidation error) is h = record { edit = edit; given = subst (λ xs. Contains xs edit) (sym is) (contains_here done edit rest); holds = h }
some_way space state edits done edit rest (refusal.Store f) is h = record { edit = edit; given = subst (λ xs. Contains xs edit) (sym is) (contains_here done edit rest); holds = h }
some_way space state edits done edit rest refusal.NoMemory is h = tt

pub some_expected : (space : List ℕ) (plans : List Plan) (i : ℕ) (plan : Plan) (e : RefError) → i < length plans → plan ≡ get_or plans i plan → AllByRecursion (λ (p : Plan). KnowsShown space p.way) plans → (KnowsShown space plan.way → ExpectedCauses space plan e) → SomeExpectedCauses space plans e
some_expected space plans i plan e h is shown given = go e (given (all_at (λ (p : Plan). KnowsShown space p.way) plans i plan h is shown))
  where
    at : Contains plans plan
    at = contains_at plans i plan h is

    go : (e : RefError) → ExpectedCauses space plan e → SomeExpectedCauses space plans e
    go (refusal.Cycle n) h = (plan, at, h)
    go (refusal.DepthLimitExceeded n) h = (plan, at, h)
    go (refusal.MustExist n) h = (plan, at, h)
    go (refusal.MustNotExist n a) h = (plan, at, h)
    go (refusal.ReferenceOutOfDate n x a) h = (plan, at, h)
    go (refusal.NameConflict n w) h = (plan, at, h)
    go (refusal.DuplicateEdit n) h = (plan, at, h)
    go refusal.MissingCommitter h = (plan, at, h)
    go (refusal.Unwritable f) h = (plan, at, h)
    go (refusal.NameValidation error) h = (plan, at, h)
    go (refusal.Store f) h = (plan, at, h)
    go refusal.NoMemory h = tt

-- ---- why edits are refused

way_fault : (terms : Terms) (state : StoreState) (edits : List RefEdit) (fault : What) → OfEdit edits (λ edit. EditWayCauses terms.space state edit (refusal.Store fault)) → EditCauses terms state edits (refusal.Store fault)
way_fault terms state edits (what.Name n) h = inl h
way_fault terms state edits (what.Object id) h = inl h
way_fault terms state edits what.Index h = inl h
way_fault terms state edits what.Write h = inl h
way_fault terms state edits what.Listing h = absurd (go h.edit.deref (stored_name terms.space h.edit.name) h.holds)
  where
    go : (deref : Bool) (name : List ℕ) → WayCauses state deref name (refusal.Store what.Listing) → ⊥
    go true name w = w
    go false name w = let e : what.Listing ≡ what.Name name = w.0 in cc

pub way_causes : (terms : Terms) (state : StoreState) (edits : List RefEdit) (e : RefError) → SomeWayCauses terms.space state edits e → EditCauses terms state edits e
way_causes terms state edits (refusal.Cycle n) h = h
way_causes terms state edits (refusal.DepthLimitExceeded n) h = h
way_causes terms state edits (refusal.NameValidation error) h = absurd h.holds
way_causes terms state edits (refusal.Store f) h = way_fault terms state edits f h
way_causes terms state edits refusal.NoMemory h = tt
way_causes terms state edits refusal.MissingCommitter h = absurd h.holds
way_causes terms state edits (refusal.Unwritable f) h = absurd h.holds
way_causes terms state edits (refusal.MustExist n) h = absurd h.holds
way_causes terms state edits (refusal.MustNotExist n a) h = absurd h.holds
way_causes terms state edits (refusal.ReferenceOutOfDate n x a) h = absurd h.holds
way_causes terms state edits (refusal.NameConflict n w) h = absurd h.holds
way_causes terms state edits (refusal.DuplicateEdit n) h = absurd h.holds

module _ (terms : Terms) (state : StoreState) (edits : List RefEdit) (plans : List Plan) (ways : ArePlans terms.space state.references edits plans) where
  of_plan : (P : Plan → Type 0) (plan : Plan) → Contains plans plan → P plan → OfPlan terms state.references edits P
  of_plan P plan at p =
      let r = beside (IsPlan terms.space state.references) edits plans plan ways at in
      record { edit = r.0; given = r.1; holds = (plan, r.2, p) }

  expected_causes : (e : RefError) → SomeExpectedCauses terms.space plans e → EditCauses terms state edits e
  expected_causes (refusal.MustExist n) (plan, at, h) = of_plan (λ p. ExpectedCauses terms.space p (refusal.MustExist n)) plan at h
  expected_causes (refusal.MustNotExist n a) (plan, at, h) = of_plan (λ p. ExpectedCauses terms.space p (refusal.MustNotExist n a)) plan at h
  expected_causes (refusal.ReferenceOutOfDate n x a) (plan, at, h) = of_plan (λ p. ExpectedCauses terms.space p (refusal.ReferenceOutOfDate n x a)) plan at h
  expected_causes (refusal.NameValidation error) (plan, at, h) = absurd h
  expected_causes refusal.NoMemory h = tt
  expected_causes (refusal.Store f) (plan, at, h) = absurd h
  expected_causes refusal.MissingCommitter (plan, at, h) = absurd h
  expected_causes (refusal.Unwritable f) (plan, at, h) = absurd h
  expected_causes (refusal.Cycle n) (plan, at, h) = absurd h
  expected_causes (refusal.DepthLimitExceeded n) (plan, at, h) = absurd h
  expected_causes (refusal.NameConflict n w) (plan, at, h) = absurd h
  expected_causes (refusal.DuplicateEdit n) (plan, at, h) = absurd h

  shown_place : (names : List (List ℕ)) (places : List Place) (place : Place) → ArePlaces terms.space names places → Contains places place → IsShown terms.space place.name place.shown
  shown_place names places place z at =
      let r = beside (λ name (p : Place). (p.name ≡ name) × IsShown terms.space name p.shown) names places place z at in
      subst (λ n. IsShown terms.space n place.shown) (sym r.2.0) r.2.1

  two : (n : List ℕ) → Meet plans n → OfTwo terms state.references edits (MeetAt terms.space n)
  two n m =
      let r = split_zip (IsPlan terms.space state.references) edits m.before m.one (m.between ++ m.other ∷ m.after) (subst (AllZip (IsPlan terms.space state.references) edits) (m.split ∙ append_assoc m.before (m.one ∷ m.between) (m.other ∷ m.after)) ways) in
      let q = split_zip (IsPlan terms.space state.references) r.2 m.between m.other m.after r.5 in
      record {
        before = r.0;
        one = r.1;
        between = q.0;
        other = q.1;
        after = q.2;
        split = r.3 ∙ ap (λ xs. r.0 ++ r.1 ∷ xs) q.3 ∙ sym (append_assoc r.0 (r.1 ∷ q.0) (q.1 ∷ q.2));
        one_plan = m.one;
        is_one = r.4;
        other_plan = m.other;
        is_other = q.4;
        holds = (m.place.name, m.shared, subst (IsShown terms.space m.place.name) (sym m.shown) (place_shown r.4.shown q.4.shown m.on_way));
      }
    where
      place_shown : KnowsShown terms.space m.one.way → KnowsShown terms.space m.other.way → Contains (places_of m.one.way) m.place ⊎ Contains (places_of m.other.way) m.place → IsShown terms.space m.place.name m.place.shown
      place_shown a b (inl at) = shown_place (names_of m.one.way) (places_of m.one.way) m.place a.places at
      place_shown a b (inr at) = shown_place (names_of m.other.way) (places_of m.other.way) m.place b.places at

  shared_causes : (e : RefError) → SharedCauses plans e → EditCauses terms state edits e
  shared_causes (refusal.DuplicateEdit n) h = two n h
  shared_causes refusal.NoMemory h = tt
  shared_causes (refusal.Store f) h = absurd h
  shared_causes refusal.MissingCommitter h = absurd h
  shared_causes (refusal.Unwritable f) h = absurd h
  shared_causes (refusal.NameValidation error) h = absurd h
  shared_causes (refusal.Cycle n) h = absurd h
  shared_causes (refusal.DepthLimitExceeded n) h = absurd h
  shared_causes (refusal.MustExist n) h = absurd h
  shared_causes (refusal.MustNotExist n a) h = absurd h
  shared_causes (refusal.ReferenceOutOfDate n x a) h = absurd h
  shared_causes (refusal.NameConflict n w) h = absurd h

  end_shown : (plan : Plan) → Contains plans plan → IsShown terms.space plan.way.end.name plan.way.end.shown
  end_shown plan at =
      let r = beside (IsPlan terms.space state.references) edits plans plan ways at in
      shown_place (names_of plan.way) (places_of plan.way) plan.way.end r.2.shown.places (Contains-push plan.way.before plan.way.end)

  conflict : (n with : List ℕ) (plan : Plan) → makes plan ≡ true → n ≡ plan.way.end.shown → ConflictsWith terms.space state.references (IsMadeBy plans) plan with → MakesConflict terms state.references edits n with plan
  conflict n with plan on shown c = go c.stands
    where
      go : (IsShown terms.space c.other with × IfSome state.references (λ refs. IsSome (get refs.targets c.other))) ⊎ IsMadeBy plans c.other with → MakesConflict terms state.references edits n with plan
      go (inl s) = record { made = on; shown = shown; other = c.other; other_shown = s.0; conflict = c.conflict; stands = inl s.1 }
      go (inr m) = record {
        made = on;
        shown = shown;
        other = c.other;
        other_shown = subst (λ x. IsShown terms.space x with) m.named (subst (IsShown terms.space m.plan.way.end.name) m.is_shown (end_shown m.plan m.among));
        conflict = c.conflict;
        stands = inr (of_plan (λ p. (makes p ≡ true) × (c.other ≡ p.way.end.name)) m.plan m.among (m.made, sym m.named));
      }

  room_fault : (fault : What) (plan : Plan) → Contains plans plan → makes plan ≡ true → fault ≡ what.Listing → IsTrue (state.unreadable fault) → EditCauses terms state edits (refusal.Store fault)
  room_fault fault plan at on is u = subst (λ f. EditCauses terms state edits (refusal.Store f)) (sym is) (subst (λ f. IsTrue (state.unreadable f)) is u, of_plan (λ p. makes p ≡ true) plan at on)

  room_causes : (e : RefError) → AllRoomCauses terms.space state plans e → EditCauses terms state edits e
  room_causes (refusal.NameConflict n w) (plan, at, on, (shown, c)) = of_plan (MakesConflict terms state.references edits n w) plan at (conflict n w plan on shown c)
  room_causes (refusal.Store f) (plan, at, on, (is, u)) = room_fault f plan at on is u
  room_causes refusal.NoMemory h = tt
  room_causes refusal.MissingCommitter (plan, at, on, h) = absurd h
  room_causes (refusal.Unwritable f) (plan, at, on, h) = absurd h
  room_causes (refusal.NameValidation error) (plan, at, on, h) = absurd h
  room_causes (refusal.Cycle n) (plan, at, on, h) = absurd h
  room_causes (refusal.DepthLimitExceeded n) (plan, at, on, h) = absurd h
  room_causes (refusal.MustExist n) (plan, at, on, h) = absurd h
  room_causes (refusal.MustNotExist n a) (plan, at, on, h) = absurd h
  room_causes (refusal.ReferenceOutOfDate n x a) (plan, at, on, h) = absurd h
  room_causes (refusal.DuplicateEdit n) (plan, at, on, h) = absurd h

  change_fault : (fault : What) (plan : Plan) → Contains plans plan → ChangeCauses terms state plan (refusal.Store fault) → EditCauses terms state edits (refusal.Store fault)
  change_fault (what.Name n) plan at h = inr (of_plan (λ p. ChangeCauses terms state p (refusal.Store (what.Name n))) plan at h)
  change_fault (what.Object id) plan at h = inr (of_plan (λ p. ChangeCauses terms state p (refusal.Store (what.Object id))) plan at h)
  change_fault what.Index plan at h = inr (of_plan (λ p. ChangeCauses terms state p (refusal.Store what.Index)) plan at h)
  change_fault what.Write plan at h = inr (of_plan (λ p. ChangeCauses terms state p (refusal.Store what.Write)) plan at h)
  change_fault what.Listing plan at h = let e : what.Listing ≡ what.Name h.place.name = h.unreadable.0 in cc

  change_causes : (e : RefError) → SomeChangeCauses terms state plans e → EditCauses terms state edits e
  change_causes refusal.MissingCommitter (plan, at, h) = of_plan (λ p. ChangeCauses terms state p refusal.MissingCommitter) plan at h
  change_causes (refusal.Unwritable f) (plan, at, h) = of_plan (λ p. ChangeCauses terms state p (refusal.Unwritable f)) plan at h
  change_causes (refusal.NameValidation error) (plan, at, h) = absurd h
  change_causes (refusal.Store f) (plan, at, h) = change_fault f plan at h
  change_causes refusal.NoMemory h = tt
  change_causes (refusal.Cycle n) (plan, at, h) = absurd h
  change_causes (refusal.DepthLimitExceeded n) (plan, at, h) = absurd h
  change_causes (refusal.MustExist n) (plan, at, h) = absurd h
  change_causes (refusal.MustNotExist n a) (plan, at, h) = absurd h
  change_causes (refusal.ReferenceOutOfDate n x a) (plan, at, h) = absurd h
  change_causes (refusal.NameConflict n w) (plan, at, h) = absurd h
  change_causes (refusal.DuplicateEdit n) (plan, at, h) = absurd h

  pub plan_causes : (e : RefError) → PlanCauses terms state plans e → EditCauses terms state edits e
  plan_causes e (inl h) = expected_causes e h
  plan_causes e (inr (inl h)) = shared_causes e h
  plan_causes e (inr (inr (inl h))) = room_causes e h
  plan_causes e (inr (inr (inr h))) = change_causes e h

pub ruleset preparing = (prepares, all_shown, all_distinct, all_kinds, way_causes, plan_causes)
