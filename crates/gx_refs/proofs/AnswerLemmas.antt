-- The answer of edits.
use Rattle.std.proofs.Common.{◌≡◌, ◌∙◌, sym, ap, refl, subst, Bool, true, false, cond, List, [], ◌∷◌, ◌++◌, ℕ, ◌+◌, ◌<◌, length, take, get_or, Option, Some, None, IfSome, inl, inr, append_assoc}
use Rattle.std.specs.List.{AllZip, AllByRecursion}
use Rattle.std.specs.FinMap.{get}
use Rattle.std.specs.Str.{bytes_eq}
use Rattle.std.proofs.lemmas.List.{take_more, append-nil}
use Rattle.std.proofs.lemmas.Grind.{flat_map-append}
use Rattle.gx_store.specs.State.{RefState}
use Rattle.gx_store.specs.declared.target.Target.TheVariants as target
use Rattle.gx_refs.specs.Answer.{change_from, log_alone, change_at, IsAnswer, AreAnswers}
use Rattle.gx_refs.specs.Answering.{answer_at, answer_before, answers_before, answers_along, answers_by, answers}
use Rattle.gx_refs.specs.Chain.{AreDistinct, IsPath}
use Rattle.gx_refs.specs.Plan.{Touch, IsWay, IsPlan, ArePlans, ArePlaces, places_of, stored_names, names_of, touched_by, touches_at, touches_of, touches}
use Rattle.gx_refs.specs.Shown.{IsShown, IsShownFound, stored_name}
use Rattle.gx_refs.specs.declared.edit.Change.{Change}
use Rattle.gx_refs.specs.declared.edit.Change.TheVariants.{Update, Delete}
use Rattle.gx_refs.specs.declared.edit.RefEdit.{RefEdit}
use Rattle.gx_refs.specs.declared.plan.Place.{Place}
use Rattle.gx_refs.specs.declared.plan.Plan.{Plan}
use Rattle.gx_refs.specs.declared.plan.Way.{Way}
use Rattle.gx_refs.proofs.EditLemmas.{map_append}
use Rattle.gx_refs.proofs.NameLemmas.{own_name, turned, among_at}
use Rattle.gx_refs.proofs.PlanLemmas.{zip_more, names_append, distinct_way}

pub answers_more : (plans : List Plan) (i : ℕ) (plan : Plan) (edits more : List RefEdit) → i < length plans → plan ≡ get_or plans i plan → edits ≡ answers (take i plans) → more ≡ answers_by plan.edit.change plan.way → edits ++ more ≡ answers (take (i + 1) plans)
answers_more plans i plan edits more h is e m =
    ap (λ xs. xs ++ more) e ∙ ap (λ xs. answers (take i plans) ++ xs) (m ∙ sym (append-nil (answers_by plan.edit.change plan.way)))
    ∙ sym (flat_map-append (λ (p : Plan). answers_by p.edit.change p.way) (take i plans) (plan ∷ []))
    ∙ ap answers (sym (take_more plans i plan h ∙ ap (λ x. take i plans ++ x ∷ []) (sym is)))

-- ---- what the answers tell

told_with : {P Q : RefState → Type 0} (told : Option RefState) → ((refs : RefState) → P refs → Q refs) → IfSome told P → IfSome told Q
told_with None f h = tt
told_with (Some refs) f h = f refs h

zip_both : {A B : Type 0} (R : A → B → Type 0) (xs us : List A) (ys vs : List B) → AllZip R xs ys → AllZip R us vs → AllZip R (xs ++ us) (ys ++ vs)
zip_both R [] us [] vs a b = b
zip_both R [] us (y ∷ ys) vs a b = absurd a
zip_both R (x ∷ xs) us [] vs a b = absurd a
zip_both R (x ∷ xs) us (y ∷ ys) vs a b = (a.0, zip_both R xs us ys vs a.1 b)

abbrev touch_of : Plan → Place → Touch
touch_of plan place = record { plan = plan; place = place }

module _ (space : List ℕ) (told : Option RefState) (plan : Plan) (change : Change) (same : plan.edit.change ≡ change) where
  answered_at : (place : Place) (t : Bool) → bytes_eq place.name plan.way.end.name ≡ t → change_at (touch_of plan place) ≡ cond t change (log_alone change)
  answered_at place t e = ap (λ b. cond b plan.edit.change (log_alone plan.edit.change)) e ∙ ap (λ c. cond t c (log_alone c)) same

  at_end : IfSome told (λ refs. IsShownFound space (get refs.targets plan.way.end.name) plan.way.shown) → IsAnswer space told (touch_of plan plan.way.end) (answer_at plan.way.end (change_from change plan.way.shown))
  at_end shown = record {
    named = refl;
    still = refl;
    old = plan.way.shown;
    stood = inl (refl, refl);
    shown = shown;
    change = ap (λ c. change_from c plan.way.shown) (sym (answered_at plan.way.end true (own_name plan.way.end.name)));
  }

  at_step : (front : List Place) (place next : Place) (after : List Place) → places_of plan.way ≡ front ++ place ∷ next ∷ after → bytes_eq place.name plan.way.end.name ≡ false → IfSome told (λ refs. get refs.targets place.name ≡ Some (target.Symbolic next.name)) → IsShown space next.name next.shown → IsAnswer space told (touch_of plan place) (answer_before change place next)
  at_step front place next after split other leads shown = record {
    named = refl;
    still = refl;
    old = Some (target.Symbolic next.shown);
    stood = inr (front, next, after, split, refl);
    shown = told_with told (λ refs l. subst (λ o. IsShownFound space o (Some (target.Symbolic next.shown))) (sym l) (target.Symbolic next.shown, (next.shown, shown, refl), refl)) leads;
    change = ap (λ c. change_from c (Some (target.Symbolic next.shown))) (sym (answered_at place false other));
  }

  abbrev AreShown : List Place → Type 0
  AreShown places = AllByRecursion (λ (place : Place). IsShown space place.name place.shown) (places ++ plan.way.end ∷ [])

  abbrev LeadOn : List Place → Type 0
  LeadOn places = IfSome told (λ refs. IsPath refs.targets (stored_names (places ++ plan.way.end ∷ [])))

  not_end : (place : Place) (more : List Place) → AreDistinct (stored_names (place ∷ more ++ plan.way.end ∷ [])) → bytes_eq place.name plan.way.end.name ≡ false
  not_end place more d =
      let names : AreDistinct (place.name ∷ (stored_names more ++ plan.way.end.name ∷ [])) = subst (λ ns. AreDistinct (place.name ∷ ns)) (names_append more plan.way.end) d in
      turned plan.way.end.name place.name (among_at place.name (stored_names more) plan.way.end.name [] names.0)

  steps : (front places : List Place) → places_of plan.way ≡ front ++ (places ++ plan.way.end ∷ []) → AreShown places → LeadOn places → AreDistinct (stored_names (places ++ plan.way.end ∷ [])) → AllZip (IsAnswer space told) (touches_at plan places) (answers_before change places plan.way.end)
  steps front [] split shown leads d = tt
  steps front (place ∷ []) split shown leads d = (at_step front place plan.way.end [] split (not_end place [] d) (told_with told (λ refs l. l.0) leads) shown.1.0, tt)
  steps front (place ∷ next ∷ more) split shown leads d = (
    at_step front place next (more ++ plan.way.end ∷ []) split (not_end place (next ∷ more) d) (told_with told (λ refs l. l.0) leads) shown.1.0,
    steps (front ++ place ∷ []) (next ∷ more) (split ∙ sym (append_assoc front (place ∷ []) (next ∷ more ++ plan.way.end ∷ []))) shown.1 (told_with told (λ refs l. l.1) leads) d.1,
  )

  along : (places : List Place) → places_of plan.way ≡ places ++ plan.way.end ∷ [] → AreShown places → LeadOn places → AreDistinct (stored_names (places ++ plan.way.end ∷ [])) → IfSome told (λ refs. IsShownFound space (get refs.targets plan.way.end.name) plan.way.shown)
      → AllZip (IsAnswer space told) (touches_at plan (places ++ plan.way.end ∷ [])) (answers_along change places plan.way)
  along places split shown leads d end =
      subst (λ ts. AllZip (IsAnswer space told) ts (answers_along change places plan.way)) (sym (map_append (touch_of plan) places (plan.way.end ∷ [])))
      (zip_more (IsAnswer space told) (touches_at plan places) (answers_before change places plan.way.end) (touch_of plan plan.way.end) (answer_at plan.way.end (change_from change plan.way.shown)) (steps [] places split shown leads d) (at_end end))

all_shown : (space : List ℕ) (names : List (List ℕ)) (places : List Place) → ArePlaces space names places → AllByRecursion (λ (place : Place). IsShown space place.name place.shown) places
all_shown space [] [] a = tt
all_shown space [] (p ∷ places) a = absurd a
all_shown space (n ∷ names) [] a = absurd a
all_shown space (n ∷ names) (p ∷ places) a = (subst (λ x. IsShown space x p.shown) (sym a.0.0) a.0.1, all_shown space names places a.1)

way_leads : (told : Option RefState) (deref : Bool) (name : List ℕ) (way : Way) → IsWay told deref name way → IfSome told (λ refs. IsPath refs.targets (names_of way))
way_leads told true name way w = told_with told (λ refs e. e.walks.walked.path) w.ends
way_leads told false name way w = told_with told (λ refs i. subst (λ (before : List Place). IsPath refs.targets (stored_names (before ++ way.end ∷ []))) (sym w.alone) tt) w.is

way_found : (told : Option RefState) (deref : Bool) (name : List ℕ) (way : Way) → IsWay told deref name way → IfSome told (λ refs. way.found ≡ get refs.targets way.end.name)
way_found told true name way w = told_with told (λ refs e. e.is) w.ends
way_found told false name way w = told_with told (λ refs i. i ∙ ap (get refs.targets) (sym w.end)) w.is

plan_tells : (space : List ℕ) (told : Option RefState) (edit : RefEdit) (plan : Plan) → IsPlan space told edit plan → (change : Change) → plan.edit.change ≡ change → AllZip (IsAnswer space told) (touches_at plan (touched_by change plan.way)) (answers_by change plan.way)
plan_tells space told edit plan is (Update log expected new) same =
    along space told plan (Update log expected new) same plan.way.before refl (all_shown space (names_of plan.way) (places_of plan.way) is.shown.places) (way_leads told edit.deref (stored_name space edit.name) plan.way is.way) (distinct_way told edit.deref (stored_name space edit.name) plan.way is.way)
    (told_with told (λ refs f. subst (λ o. IsShownFound space o plan.way.shown) f is.shown.target) (way_found told edit.deref (stored_name space edit.name) plan.way is.way))
plan_tells space told edit plan is (Delete expected log) same =
    (at_end space told plan (Delete expected log) same (told_with told (λ refs f. subst (λ o. IsShownFound space o plan.way.shown) f is.shown.target) (way_found told edit.deref (stored_name space edit.name) plan.way is.way)), tt)

-- one answer a touch tells it
pub answers_tell : (space : List ℕ) (told : Option RefState) (edits : List RefEdit) (plans : List Plan) → ArePlans space told edits plans → AreAnswers space told plans (answers plans)
answers_tell space told [] [] z = tt
answers_tell space told [] (p ∷ plans) z = absurd z
answers_tell space told (e ∷ edits) [] z = absurd z
answers_tell space told (e ∷ edits) (p ∷ plans) z =
    zip_both (IsAnswer space told) (touches_of p) (touches plans) (answers_by p.edit.change p.way) (answers plans) (plan_tells space told e p z.0 p.edit.change refl) (answers_tell space told edits plans z.1)
