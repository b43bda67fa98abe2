-- An edit has one plan, and edits that may be made are not refused.
use Rattle.std.proofs.Common.{◌≡◌, ◌∙◌, sym, ap, refl, subst, ℕ, zero, suc, Bool, true, false, ◌&&◌, List, [], ◌∷◌, ◌++◌, Option, Some, None, IsSome, inl, inr, Contains, arith}
use Rattle.std.specs.FinMap.{get}
use Rattle.std.specs.List.{AllByRecursion, AllZip}
use Rattle.gx_object.specs.Identity.{is_writable_text, is_writable_offset, is_writable_identity}
use Rattle.gx_object.specs.declared.encode.Field.{Field}
use Rattle.gx_object.specs.declared.encode.Field.TheVariants as field
use Rattle.gx_object.specs.declared.signature.Signature.{Signature}
use Rattle.gx_store.specs.Conflict.{Conflict}
use Rattle.gx_store.specs.State.{RefState}
use Rattle.gx_store.specs.declared.target.Target.{Target}
use Rattle.gx_store.specs.declared.target.Target.TheVariants as target
use Rattle.gx_refs.specs.Chain.{Ends, Cycles, IsTooDeep}
use Rattle.gx_refs.specs.EditCauses.{AsksPresence, AsksFor, ExpectedCauses, HasLine, HasSureLine, BreaksAt, CanSign, MakesConflict, IsInTheWay, MayBeMade}
use Rattle.gx_refs.specs.EditLaws.{OnePlan, MadeIsNotRefused, OneMade, OneMeetsNone, SignerSigns}
use Rattle.gx_refs.specs.Edits.{EditsReferences, is_logged}
use Rattle.gx_refs.specs.Laws.Fate.{Ending, Cycling, TooDeep}
use Rattle.gx_refs.specs.Plan.{IsWay, IsPlan, ArePlans, ArePlaces, KnowsShown, places_of, stored_names, names_of, expected_of, IsMet, makes, Share, ShareNone, HasRoom}
use Rattle.gx_refs.specs.Shown.{stored_name, stored_target, IsShown, IsShownTarget, IsShownFound}
use Rattle.gx_refs.specs.declared.edit.PreviousValue.{PreviousValue}
use Rattle.gx_refs.specs.declared.edit.PreviousValue.TheVariants as previous
use Rattle.gx_refs.specs.declared.edit.RefEdit.{RefEdit}
use Rattle.gx_refs.specs.declared.error.RefError.{RefError}
use Rattle.gx_refs.specs.declared.error.RefError.TheVariants as refusal
use Rattle.gx_refs.specs.declared.plan.Place.{Place}
use Rattle.gx_refs.specs.declared.plan.Plan.{Plan}
use Rattle.gx_refs.specs.declared.plan.Way.{Way}
use Rattle.gx_refs.specs.declared.terms.Terms.{Terms}
use Rattle.gx_refs.proofs.EditLemmas.{one_result}
use Rattle.gx_refs.proofs.FateLemmas.{meets_one}
use Rattle.gx_refs.proofs.ListLemmas.{one_rest}
use Rattle.gx_refs.proofs.NameLemmas.{last_same}

-- ---- what is shown is one

one_shown : (space stored a b : List ℕ) → IsShown space stored a → IsShown space stored b → a ≡ b
one_shown space stored a b (inl v) (inl w) = one_rest space a b (sym v.0 ∙ w.0)
one_shown space stored a b (inl v) (inr w) = absurd (w.1 a v)
one_shown space stored a b (inr v) (inl w) = absurd (v.1 b w)
one_shown space stored a b (inr v) (inr w) = v.0 ∙ sym w.0

one_shown_target : (space : List ℕ) (stored a b : Target) → IsShownTarget space stored a → IsShownTarget space stored b → a ≡ b
one_shown_target space (target.Object id) a b v w = v ∙ sym w
one_shown_target space (target.Symbolic name) a b v w = v.2 ∙ ap target.Symbolic (one_shown space name v.0 w.0 v.1 w.1) ∙ sym w.2

one_shown_found : (space : List ℕ) (stored a b : Option Target) → IsShownFound space stored a → IsShownFound space stored b → a ≡ b
one_shown_found space None a b v w = v ∙ sym w
one_shown_found space (Some stored) a b v w = v.2 ∙ ap Some (one_shown_target space stored v.0 w.0 v.1 w.1) ∙ sym w.2

same_place : (a b : Place) → a.name ≡ b.name → a.shown ≡ b.shown → a ≡ b
same_place a b n s = λ i. record { name = n i; shown = s i }

one_places : (space : List ℕ) (names : List (List ℕ)) (xs ys : List Place) → ArePlaces space names xs → ArePlaces space names ys → xs ≡ ys
one_places space [] [] [] a b = refl
one_places space [] [] (y ∷ ys) a b = absurd b
one_places space [] (x ∷ xs) ys a b = absurd a
one_places space (n ∷ names) [] ys a b = absurd a
one_places space (n ∷ names) (x ∷ xs) [] a b = absurd b
one_places space (n ∷ names) (x ∷ xs) (y ∷ ys) a b =
    ap (λ z. z ∷ xs) (same_place x y (a.0.0 ∙ sym b.0.0) (one_shown space n x.shown y.shown a.0.1 b.0.1)) ∙ ap (λ zs. y ∷ zs) (one_places space names xs ys a.1 b.1)

-- lists with one more are the same where both parts are
same_before : {X : Type 0} (xs ys : List X) (x y : X) → xs ++ x ∷ [] ≡ ys ++ y ∷ [] → xs ≡ ys
same_before [] [] x y e = refl
same_before [] (z ∷ []) x y e = cc
same_before [] (z ∷ w ∷ ys) x y e = cc
same_before (z ∷ []) [] x y e = cc
same_before (z ∷ w ∷ xs) [] x y e = cc
same_before (z ∷ xs) (w ∷ ys) x y e =
    let head : z ≡ w = cc in
    let tail : xs ++ x ∷ [] ≡ ys ++ y ∷ [] = cc in
    ap (λ v. v ∷ xs) head ∙ ap (λ vs. w ∷ vs) (same_before xs ys x y tail)

same_way : (space : List ℕ) (one other : Way) → names_of one ≡ names_of other → one.found ≡ other.found → KnowsShown space one → KnowsShown space other → one ≡ other
same_way space one other n f a b =
    let places : places_of one ≡ places_of other = one_places space (names_of other) (places_of one) (places_of other) (subst (λ ns. ArePlaces space ns (places_of one)) n a.places) b.places in
    let before : one.before ≡ other.before = same_before one.before other.before one.end other.end places in
    let end : one.end ≡ other.end = last_same one.before other.before one.end other.end places in
    let shown : one.shown ≡ other.shown = one_shown_found space other.found one.shown other.shown (subst (λ o. IsShownFound space o one.shown) f a.target) b.target in
    λ i. record { before = before i; end = end i; found = f i; shown = shown i }

alone : (way : Way) (name : List ℕ) → way.before ≡ [] → way.end.name ≡ name → names_of way ≡ name ∷ []
alone way name none e = ap (λ (ps : List Place). stored_names (ps ++ way.end ∷ [])) none ∙ ap (λ n. n ∷ []) e

one_way_of : (refs : RefState) (deref : Bool) (name : List ℕ) (one other : Way) → IsWay (Some refs) deref name one → IsWay (Some refs) deref name other → (names_of one ≡ names_of other) × (one.found ≡ other.found)
one_way_of refs true name one other a b =
    let names : names_of one ≡ names_of other = (meets_one refs.targets name Ending Ending (names_of one) (names_of other) (one.end.name, one.found, a.ends) (other.end.name, other.found, b.ends)).1 in
    let end : one.end.name ≡ other.end.name = last_same a.ends.walks.before b.ends.walks.before one.end.name other.end.name (sym a.ends.walks.last ∙ names ∙ b.ends.walks.last) in
    (names, a.ends.is ∙ ap (get refs.targets) end ∙ sym b.ends.is)
one_way_of refs false name one other a b = (alone one name a.alone a.end ∙ sym (alone other name b.alone b.end), a.is ∙ sym b.is)

pub one_plan : OnePlan
one_plan space refs edit one other a b =
    let w = one_way_of refs edit.deref (stored_name space edit.name) one.way other.way a.way b.way in
    let edits : one.edit ≡ other.edit = a.of_edit ∙ sym b.of_edit in
    let ways : one.way ≡ other.way = same_way space one.way other.way w.0 w.1 a.shown b.shown in
    λ i. record { edit = edits i; way = ways i }

one_plans : (space : List ℕ) (refs : RefState) (edits : List RefEdit) (ps qs : List Plan) → ArePlans space (Some refs) edits ps → ArePlans space (Some refs) edits qs → ps ≡ qs
one_plans space refs [] [] [] a b = refl
one_plans space refs [] [] (q ∷ qs) a b = absurd b
one_plans space refs [] (p ∷ ps) qs a b = absurd a
one_plans space refs (e ∷ edits) [] qs a b = absurd a
one_plans space refs (e ∷ edits) (p ∷ ps) [] a b = absurd b
one_plans space refs (e ∷ edits) (p ∷ ps) (q ∷ qs) a b =
    ap (λ x. x ∷ ps) (one_plan space refs e p q a.0 b.0) ∙ ap (λ xs. q ∷ xs) (one_plans space refs edits ps qs a.1 b.1)

pub one_made : OneMade
one_made terms edits old one other a b =
    let plans : a.plans ≡ b.plans = one_plans terms.space old edits a.plans b.plans a.ways b.ways in
    one_result terms b.plans old one other (subst (λ ps. EditsReferences terms ps old one) plans a.makes) b.makes

-- ---- lists

all_in : {X : Type 0} (P : X → Type 0) (xs : List X) (x : X) → AllByRecursion P xs → Contains xs x → P x
all_in P [] x a (k, less, is) = absurd (omega (arith, less))
all_in P (y ∷ xs) x a (zero, less, is) = subst P is a.0
all_in P (y ∷ xs) x a (suc k, less, is) = all_in P xs x a.1 (k, omega (arith, less), is)

-- what stands beside one of a list
matching : {A B : Type 0} (R : A → B → Type 0) (xs : List A) (ys : List B) (x : A) → AllZip R xs ys → Contains xs x → (y : B) × Contains ys y × R x y
matching R [] ys x z (k, less, is) = absurd (omega (arith, less))
matching R (a ∷ xs) [] x z at = absurd z
matching R (a ∷ xs) (b ∷ ys) x z (zero, less, is) = (b, (zero, omega arith, refl), subst (λ w. R w b) is z.0)
matching R (a ∷ xs) (b ∷ ys) x z (suc k, less, is) =
    let r = matching R xs ys x z.1 (k, omega (arith, less), is) in
    (r.0, (suc r.1.0, omega (arith, r.1.1), r.1.2), r.2)

-- ---- what is expected

not_absent : (space : List ℕ) (expected : PreviousValue) → AsksPresence expected → IsMet space expected None → ⊥
not_absent space previous.Any asks met = asks
not_absent space previous.MustExist asks met = met
not_absent space previous.MustNotExist asks met = asks
not_absent space (previous.MustExistAndMatch wanted) asks met = cc
not_absent space (previous.ExistingMustMatch wanted) asks met = asks

not_other : (space : List ℕ) (expected : PreviousValue) (asked found : Target) → AsksFor expected asked → IsMet space expected (Some found) → found ≡ stored_target space asked
not_other space previous.Any asked found asks met = absurd asks
not_other space previous.MustExist asked found asks met = absurd asks
not_other space previous.MustNotExist asked found asks met = absurd asks
not_other space (previous.MustExistAndMatch wanted) asked found asks met =
    let same : found ≡ stored_target space wanted = cc in same ∙ ap (stored_target space) (sym asks)
not_other space (previous.ExistingMustMatch wanted) asked found asks met = met ∙ ap (stored_target space) (sym asks)

shown_there : (space : List ℕ) (found shown : Option Target) (actual : Target) → IsShownFound space found shown → shown ≡ Some actual → found ≡ None → ⊥
shown_there space None shown actual s e none = let clash : Some actual ≡ None = sym e ∙ s in cc
shown_there space (Some found) shown actual s e none = cc

-- ---- who signs

first_of : (a b : Bool) → (a && b) ≡ true → a ≡ true
first_of true b e = refl
first_of false b e = absurd (let clash : false ≡ true = e in cc)

second_of : (a b : Bool) → (a && b) ≡ true → b ≡ true
second_of true b e = e
second_of false b e = absurd (let clash : false ≡ true = e in cc)

unlike : (b : Bool) → b ≡ true → b ≡ false → ⊥
unlike b e f = let clash : true ≡ false = sym e ∙ f in cc

both_texts : (who : Signature) → is_writable_identity who ≡ true → (is_writable_text who.name && is_writable_text who.email) ≡ true
both_texts who s = first_of (is_writable_text who.name && is_writable_text who.email) (is_writable_offset who.time.offset) s

not_broken : (who : Option Signature) (part : Field) → CanSign who → BreaksAt who part → ⊥
not_broken None part s b = s
not_broken (Some who) field.CommitterName s b = unlike (is_writable_text who.name) (first_of (is_writable_text who.name) (is_writable_text who.email) (both_texts who s)) b
not_broken (Some who) field.CommitterEmail s b = unlike (is_writable_text who.email) (second_of (is_writable_text who.name) (is_writable_text who.email) (both_texts who s)) b
not_broken (Some who) field.CommitterOffset s b = unlike (is_writable_offset who.time.offset) (second_of (is_writable_text who.name && is_writable_text who.email) (is_writable_offset who.time.offset) s) b
not_broken (Some who) field.AuthorName s b = b
not_broken (Some who) field.AuthorEmail s b = b
not_broken (Some who) field.AuthorOffset s b = b
not_broken (Some who) field.TaggerName s b = b
not_broken (Some who) field.TaggerEmail s b = b
not_broken (Some who) field.TaggerOffset s b = b
not_broken (Some who) field.TagName s b = b
not_broken (Some who) field.FileName s b = b
not_broken (Some who) field.Encoding s b = b
not_broken (Some who) field.HeaderName s b = b

pub signer_signs : SignerSigns
signer_signs terms told edits s = (λ r. subst CanSign r.holds.2.1 s, λ part r. not_broken terms.committer part s r.holds.2.1)

-- ---- one edit

pub one_meets_none : OneMeetsNone
one_meets_none terms told edit name r = go r.before r.one r.between r.other r.after r.split
  where
    go : (before : List RefEdit) (one : RefEdit) (between : List RefEdit) (other : RefEdit) (after : List RefEdit) → edit ∷ [] ≡ before ++ one ∷ between ++ other ∷ after → ⊥
    go [] one [] other after e = cc
    go [] one (x ∷ between) other after e = cc
    go (x ∷ []) one between other after e = cc
    go (x ∷ y ∷ before) one between other after e = cc

-- ---- edits that may be made

module _ (terms : Terms) (refs : RefState) (edits : List RefEdit) (made : MayBeMade terms (Some refs) edits) where
  -- a plan of an edit is one of the plans
  among : (edit : RefEdit) (plan : Plan) → Contains edits edit → IsPlan terms.space (Some refs) edit plan → Contains made.plans plan
  among edit plan at is =
      let m = matching (IsPlan terms.space (Some refs)) edits made.plans edit made.ways at in
      subst (Contains made.plans) (one_plan terms.space refs edit m.0 plan m.2 is) m.1

  -- what each plan has, one of an edit has
  each : (P : Plan → Type 0) → AllByRecursion P made.plans → (edit : RefEdit) (plan : Plan) → Contains edits edit → IsPlan terms.space (Some refs) edit plan → P plan
  each P all edit plan at is = all_in P made.plans plan all (among edit plan at is)

  ends : (edit : RefEdit) → Contains edits edit → edit.deref ≡ true → (names : List (List ℕ)) × Ends refs.targets (stored_name terms.space edit.name) names
  ends edit at followed =
      let m = matching (IsPlan terms.space (Some refs)) edits made.plans edit made.ways at in
      let way = subst (λ d. IsWay (Some refs) d (stored_name terms.space edit.name) m.0.way) followed m.2.way in
      (names_of m.0.way, (m.0.way.end.name, m.0.way.found, way.ends))

  no_cycle : (edit : RefEdit) → Contains edits edit → edit.deref ≡ true → Cycles refs.targets (stored_name terms.space edit.name) → ⊥
  no_cycle edit at followed c =
      let e = ends edit at followed in
      let same : Ending ≡ Cycling = (meets_one refs.targets (stored_name terms.space edit.name) Ending Cycling e.0 c.0 e.1 c.1).0 in
      cc

  not_deep : (edit : RefEdit) → Contains edits edit → edit.deref ≡ true → IsTooDeep refs.targets (stored_name terms.space edit.name) → ⊥
  not_deep edit at followed c =
      let e = ends edit at followed in
      let same : Ending ≡ TooDeep = (meets_one refs.targets (stored_name terms.space edit.name) Ending TooDeep e.0 c.0 e.1 c.1).0 in
      cc

  met : (edit : RefEdit) (plan : Plan) → Contains edits edit → IsPlan terms.space (Some refs) edit plan → IsMet terms.space (expected_of plan.edit.change) plan.way.found
  met = each (λ (plan : Plan). IsMet terms.space (expected_of plan.edit.change) plan.way.found) made.accepted.met

  no_expected : (e : RefError) (edit : RefEdit) (plan : Plan) → Contains edits edit → IsPlan terms.space (Some refs) edit plan → ExpectedCauses terms.space plan e → (e ≡ refusal.NoMemory → ⊥) → ⊥
  no_expected (refusal.MustExist name) edit plan at is c some =
      not_absent terms.space (expected_of plan.edit.change) c.0 (subst (IsMet terms.space (expected_of plan.edit.change)) c.1 (met edit plan at is))
  no_expected (refusal.MustNotExist name actual) edit plan at is c some =
      shown_there terms.space plan.way.found plan.way.shown actual is.shown.target c.1 (subst (λ x. IsMet terms.space x plan.way.found) c.0 (met edit plan at is))
  no_expected (refusal.ReferenceOutOfDate name expected actual) edit plan at is c some =
      c.0.differs (not_other terms.space (expected_of plan.edit.change) expected c.0.found c.0.asked (subst (IsMet terms.space (expected_of plan.edit.change)) c.0.there (met edit plan at is)))
  no_expected (refusal.NameValidation error) edit plan at is c some = c
  no_expected refusal.NoMemory edit plan at is c some = some refl
  no_expected (refusal.Store f) edit plan at is c some = c
  no_expected refusal.MissingCommitter edit plan at is c some = c
  no_expected (refusal.Unwritable f) edit plan at is c some = c
  no_expected (refusal.Cycle n) edit plan at is c some = c
  no_expected (refusal.DepthLimitExceeded n) edit plan at is c some = c
  no_expected (refusal.NameConflict n w) edit plan at is c some = c
  no_expected (refusal.DuplicateEdit n) edit plan at is c some = c

  none_some : {X : Type 0} (o : Option X) → o ≡ None → IsSome o → ⊥
  none_some None e s = let clash : false ≡ true = s in cc
  none_some (Some x) e s = cc

  no_conflict : (name with : List ℕ) (edit : RefEdit) (plan : Plan) → Contains edits edit → IsPlan terms.space (Some refs) edit plan → MakesConflict terms (Some refs) edits name with plan → ⊥
  no_conflict name with edit plan at is c = go c.stands
    where
      room : HasRoom (Some refs) made.plans plan
      room = each (λ p. makes p ≡ true → HasRoom (Some refs) made.plans p) made.accepted.room edit plan at is c.made

      go : IsInTheWay terms (Some refs) edits c.other → ⊥
      go (inl there) = none_some (get refs.targets c.other) (room.stored c.other c.conflict) there
      go (inr r) =
          each (λ other. makes other ≡ true → ¬ Conflict plan.way.end.name other.way.end.name) room.made r.edit r.holds.0 r.given r.holds.1 r.holds.2.0
          (subst (Conflict plan.way.end.name) r.holds.2.1 c.conflict)

  no_line : (edit : RefEdit) (plan : Plan) → Contains edits edit → IsPlan terms.space (Some refs) edit plan → HasLine terms (Some refs) plan → CanSign terms.committer
  no_line edit plan at is line = each (λ p. HasSureLine terms (Some refs) p → CanSign terms.committer) made.accepted.signed edit plan at is (record {
    place = line.place;
    touches = line.touches;
    due = λ has_log there. ap (λ b. is_logged terms plan.edit.change b line.place.shown) (there ∙ sym line.there) ∙ line.due;
  })

-- two plans of a list share no name
two_apart : (space : List ℕ) (told : RefState) (before : List RefEdit) (one : RefEdit) (between : List RefEdit) (other : RefEdit) (after : List RefEdit) (plans : List Plan) → ArePlans space (Some told) (before ++ one ∷ between ++ other ∷ after) plans → ShareNone plans
    → (p q : Plan) → IsPlan space (Some told) one p → IsPlan space (Some told) other q → (name : List ℕ) → Share p q name → ⊥
two_apart space told [] one between other after [] ways apart p q a b name s = ways
two_apart space told [] one between other after (x ∷ plans) ways apart p q a b name s =
    let m = matching (IsPlan space (Some told)) (between ++ other ∷ after) plans other ways.1 (there between) in
    let first : x ≡ p = one_plan space told one x p ways.0 a in
    let second : m.0 ≡ q = one_plan space told other m.0 q m.2 b in
    all_in (λ y. (name : List ℕ) → ¬ Share x y name) plans m.0 apart.0 m.1 name (subst (λ z. Share z m.0 name) (sym first) (subst (λ z. Share p z name) (sym second) s))
  where
    there : (front : List RefEdit) → Contains (front ++ other ∷ after) other
    there [] = (zero, omega arith, refl)
    there (y ∷ front) = let r = there front in (suc r.0, omega (arith, r.1), r.2)
two_apart space told (e ∷ before) one between other after [] ways apart p q a b name s = ways
two_apart space told (e ∷ before) one between other after (x ∷ plans) ways apart p q a b name s = two_apart space told before one between other after plans ways.1 apart.1 p q a b name s

pub made_is_not_refused : MadeIsNotRefused
made_is_not_refused terms refs edits (refusal.Cycle name) made r = no_cycle terms refs edits made r.edit r.given r.holds.0 r.holds.2
made_is_not_refused terms refs edits (refusal.DepthLimitExceeded name) made r = not_deep terms refs edits made r.edit r.given r.holds.0 r.holds.2
made_is_not_refused terms refs edits (refusal.MustExist name) made r = no_expected terms refs edits made (refusal.MustExist name) r.edit r.holds.0 r.given r.holds.1 r.holds.2 (λ e. cc)
made_is_not_refused terms refs edits (refusal.MustNotExist name actual) made r = no_expected terms refs edits made (refusal.MustNotExist name actual) r.edit r.holds.0 r.given r.holds.1 r.holds.2 (λ e. cc)
made_is_not_refused terms refs edits (refusal.ReferenceOutOfDate name expected actual) made r = no_expected terms refs edits made (refusal.ReferenceOutOfDate name expected actual) r.edit r.holds.0 r.given r.holds.1 r.holds.2 (λ e. cc)
made_is_not_refused terms refs edits (refusal.NameConflict name with) made r = no_conflict terms refs edits made name with r.edit r.holds.0 r.given r.holds.1 r.holds.2
made_is_not_refused terms refs edits (refusal.DuplicateEdit name) made r =
    two_apart terms.space refs r.before r.one r.between r.other r.after made.plans (subst (λ es. ArePlans terms.space (Some refs) es made.plans) r.split made.ways) made.accepted.apart r.one_plan r.other_plan r.is_one r.is_other r.holds.0 r.holds.1
made_is_not_refused terms refs edits refusal.MissingCommitter made r = subst CanSign r.holds.2.1 (no_line terms refs edits made r.edit r.holds.0 r.given r.holds.1 r.holds.2.0)
made_is_not_refused terms refs edits (refusal.Unwritable part) made r = not_broken terms.committer part (no_line terms refs edits made r.edit r.holds.0 r.given r.holds.1 r.holds.2.0) r.holds.2.1
made_is_not_refused terms refs edits (refusal.NameValidation error) made r = r
made_is_not_refused terms refs edits (refusal.Store fault) made r = r
made_is_not_refused terms refs edits refusal.NoMemory made r = r
