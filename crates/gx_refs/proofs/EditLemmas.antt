-- What the changes of edits make: each name by itself, then all at once.
use Rattle.std.proofs.Common.{◌≡◌, ◌≢◌, ◌∙◌, sym, ap, refl, subst, ℕ, Bool, true, false, cond, ◌||◌, List, [], ◌∷◌, ◌++◌, map, Option, Some, None, option_map, unwrap_or, inl}
use Rattle.std.specs.Str.{bytes_eq}
use Rattle.std.specs.List.{find, flat_map, AllByRecursion}
use Rattle.std.specs.Cmp.Lexicographic.{nat_list_cmp_total, texts_ties}
use Rattle.std.specs.FinMap.{FinMap, IsAntisymmetric, slice_cmp-IsAntisymmetric, nat_cmp-IsAntisymmetric, get, contains_key, insert, remove, get-insert, get-remove, same_map}
use Rattle.gx_rules.specs.Name.{name_cmp}
use Rattle.gx_store.specs.Change.{target_after, log_after, with_target, with_log, targets_after, logs_after, HaveDistinctNames}
use Rattle.gx_store.specs.declared.target.Target.{Target}
use Rattle.gx_store.specs.declared.log_line.LogLine.{LogLine}
use Rattle.gx_store.specs.declared.change.TargetChange.{TargetChange}
use Rattle.gx_store.specs.declared.change.TargetChange.TheVariants as target_change
use Rattle.gx_store.specs.declared.change.LogAct.{LogAct}
use Rattle.gx_store.specs.declared.change.LogAct.TheVariants as log_act
use Rattle.gx_store.specs.declared.change.RefChange.{RefChange}
use Rattle.gx_refs.specs.Chain.{is_among, AreDistinct}
use Rattle.gx_refs.proofs.NameLemmas.{same_name, own_name, turned, nor, distinct_changes}
use Rattle.gx_refs.specs.declared.terms.Terms.{Terms}
use Rattle.gx_refs.specs.declared.plan.Plan.{Plan}
use Rattle.gx_refs.specs.Plan.{Touch, stored_names, names_of, touched_by, touched, touched_names, touches_of, touches, Share, ShareNone}
use Rattle.gx_refs.specs.declared.plan.Place.{Place}
use Rattle.gx_refs.specs.declared.edit.Change.{Change}
use Rattle.gx_refs.specs.declared.edit.Change.TheVariants.{Update, Delete}
use Rattle.gx_refs.specs.Edits.{touch_at, target_by, log_by, change_by, change_of, all_changes}
use Rattle.gx_refs.specs.EditLaws.{ChangesMakeEdits, OneResult}

-- ---- one change

abbrev named : List ℕ → RefChange → Bool
named name change = bytes_eq change.name name

-- what a change that is found makes
abbrev target_of : Option RefChange → Option Target → Option Target
target_of None before = before
target_of (Some change) before = target_after change.target before

abbrev log_of : Option RefChange → Option (List LogLine) → Option (List LogLine)
log_of None before = before
log_of (Some change) before = log_after change.log before

tie : {X : Type 0} (here name : List ℕ) (a b : X) → cond (bytes_eq name here) a b ≡ cond (bytes_eq here name) a b
tie here name a b = at (bytes_eq here name) refl
  where
    at : (t : Bool) → bytes_eq here name ≡ t → cond (bytes_eq name here) a b ≡ cond t a b
    at true e = ap (λ t. cond t a b) (ap (λ n. bytes_eq n here) (sym (same_name here name e)) ∙ own_name here)
    at false e = ap (λ t. cond t a b) (turned here name e)

got_inserted : {X : Type 0} (m : FinMap name_cmp X) (here : List ℕ) (x : X) (name : List ℕ) → get (insert m here x) name ≡ cond (bytes_eq here name) (Some x) (get m name)
got_inserted m here x name = get-insert nat_list_cmp_total m here x name ∙ ap (λ b. cond b (Some x) (get m name)) (sym (texts_ties name here)) ∙ tie here name (Some x) (get m name)

got_removed : {X : Type 0} (m : FinMap name_cmp X) (here name : List ℕ) → get (remove m here) name ≡ cond (bytes_eq here name) None (get m name)
got_removed m here name = get-remove nat_list_cmp_total m here name ∙ ap (λ b. cond b None (get m name)) (sym (texts_ties name here)) ∙ tie here name None (get m name)

kept : {X : Type 0} (t : Bool) (x : X) → x ≡ cond t x x
kept true x = refl
kept false x = refl

got_target : (here : List ℕ) (change : TargetChange) (targets : FinMap name_cmp Target) (name : List ℕ) → get (with_target here change targets) name ≡ cond (bytes_eq here name) (target_after change (get targets name)) (get targets name)
got_target here target_change.Keep targets name = kept (bytes_eq here name) (get targets name)
got_target here (target_change.Set t) targets name = got_inserted targets here t name
got_target here target_change.Remove targets name = got_removed targets here name

got_log : (here : List ℕ) (change : LogAct) (logs : FinMap name_cmp (List LogLine)) (name : List ℕ) → get (with_log here change logs) name ≡ cond (bytes_eq here name) (log_after change (get logs name)) (get logs name)
got_log here log_act.Keep logs name = kept (bytes_eq here name) (get logs name)
got_log here (log_act.Append line) logs name = got_inserted logs here (unwrap_or (get logs here) [] ++ line ∷ []) name ∙ at (bytes_eq here name) refl
  where
    at : (t : Bool) → bytes_eq here name ≡ t → cond t (Some (unwrap_or (get logs here) [] ++ line ∷ [])) (get logs name) ≡ cond t (Some (unwrap_or (get logs name) [] ++ line ∷ [])) (get logs name)
    at true e = ap (λ n. Some (unwrap_or (get logs n) [] ++ line ∷ [])) (same_name here name e)
    at false e = refl
got_log here log_act.Remove logs name = got_removed logs here name

-- ---- changes of distinct names, each name by itself

none_named : (name : List ℕ) (changes : List RefChange) → AllByRecursion (λ (other : RefChange). other.name ≢ name) changes → find (named name) changes ≡ None
none_named name [] a = refl
none_named name (change ∷ changes) a = at (none_named name changes a.1) (bytes_eq change.name name) refl
  where
    at : find (named name) changes ≡ None → (t : Bool) → bytes_eq change.name name ≡ t → cond t (Some change) (find (named name) changes) ≡ None
    at rest true e = absurd (a.0 (same_name change.name name e))
    at rest false e = rest

pub targets_by_name : (changes : List RefChange) (targets : FinMap name_cmp Target) (name : List ℕ) → HaveDistinctNames changes → get (targets_after changes targets) name ≡ target_of (find (named name) changes) (get targets name)
targets_by_name [] targets name d = refl
targets_by_name (change ∷ changes) targets name d =
    targets_by_name changes (with_target change.name change.target targets) name d.1
    ∙ ap (target_of (find (named name) changes)) (got_target change.name change.target targets name)
    ∙ at (bytes_eq change.name name) refl
  where
    at : (t : Bool) → bytes_eq change.name name ≡ t → target_of (find (named name) changes) (cond t (target_after change.target (get targets name)) (get targets name)) ≡ target_of (cond t (Some change) (find (named name) changes)) (get targets name)
    at true e = ap (λ o. target_of o (target_after change.target (get targets name))) (none_named name changes (subst (λ n. AllByRecursion (λ (other : RefChange). other.name ≢ n) changes) (same_name change.name name e) d.0))
    at false e = refl

pub logs_by_name : (changes : List RefChange) (logs : FinMap name_cmp (List LogLine)) (name : List ℕ) → HaveDistinctNames changes → get (logs_after changes logs) name ≡ log_of (find (named name) changes) (get logs name)
logs_by_name [] logs name d = refl
logs_by_name (change ∷ changes) logs name d =
    logs_by_name changes (with_log change.name change.log logs) name d.1
    ∙ ap (log_of (find (named name) changes)) (got_log change.name change.log logs name)
    ∙ at (bytes_eq change.name name) refl
  where
    at : (t : Bool) → bytes_eq change.name name ≡ t → log_of (find (named name) changes) (cond t (log_after change.log (get logs name)) (get logs name)) ≡ log_of (cond t (Some change) (find (named name) changes)) (get logs name)
    at true e = ap (λ o. log_of o (log_after change.log (get logs name))) (none_named name changes (subst (λ n. AllByRecursion (λ (other : RefChange). other.name ≢ n) changes) (same_name change.name name e) d.0))
    at false e = refl

-- ---- the change of a name among those of all touches

abbrev is_at : List ℕ → Touch → Bool
is_at name touch = bytes_eq touch.place.name name

abbrev change_for : Terms → FinMap name_cmp (List LogLine) → List ℕ → Touch → RefChange
change_for terms logs name touch = change_by terms (contains_key logs name) touch

found_change : (terms : Terms) (logs : FinMap name_cmp (List LogLine)) (ts : List Touch) (name : List ℕ) → find (named name) (map (change_of terms logs) ts) ≡ option_map (change_for terms logs name) (find (is_at name) ts)
found_change terms logs [] name = refl
found_change terms logs (touch ∷ ts) name = at (found_change terms logs ts name) (bytes_eq touch.place.name name) refl
  where
    at : find (named name) (map (change_of terms logs) ts) ≡ option_map (change_for terms logs name) (find (is_at name) ts) → (t : Bool) → bytes_eq touch.place.name name ≡ t → cond t (Some (change_of terms logs touch)) (find (named name) (map (change_of terms logs) ts)) ≡ option_map (change_for terms logs name) (cond t (Some touch) (find (is_at name) ts))
    at rest true e = ap (λ n. Some (change_for terms logs n touch)) (same_name touch.place.name name e)
    at rest false e = rest

pub map_append : {A B : Type 0} (f : A → B) (xs ys : List A) → map f (xs ++ ys) ≡ map f xs ++ map f ys
map_append f [] ys = refl
map_append f (x ∷ xs) ys = ap (λ zs. f x ∷ zs) (map_append f xs ys)

names_along : (terms : Terms) (logs : FinMap name_cmp (List LogLine)) (plan : Plan) (places : List Place) → map (λ (change : RefChange). change.name) (map (change_of terms logs) (map (λ place. record { plan = plan; place = place }) places)) ≡ stored_names places
names_along terms logs plan [] = refl
names_along terms logs plan (place ∷ places) = ap (λ xs. place.name ∷ xs) (names_along terms logs plan places)

-- the names that changes are made at are those that are touched
pub names_touched : (terms : Terms) (logs : FinMap name_cmp (List LogLine)) (plans : List Plan) → map (λ (change : RefChange). change.name) (all_changes terms logs plans) ≡ flat_map touched_names plans
names_touched terms logs [] = refl
names_touched terms logs (plan ∷ plans) =
    ap (map (λ (change : RefChange). change.name)) (map_append (change_of terms logs) (touches_of plan) (touches plans))
    ∙ map_append (λ (change : RefChange). change.name) (map (change_of terms logs) (touches_of plan)) (all_changes terms logs plans)
    ∙ ap (λ xs. xs ++ map (λ (change : RefChange). change.name) (all_changes terms logs plans)) (names_along terms logs plan (touched plan))
    ∙ ap (λ xs. touched_names plan ++ xs) (names_touched terms logs plans)

pub distinct_touched : (terms : Terms) (logs : FinMap name_cmp (List LogLine)) (plans : List Plan) → AreDistinct (flat_map touched_names plans) → HaveDistinctNames (all_changes terms logs plans)
distinct_touched terms logs plans d = distinct_changes (all_changes terms logs plans) (subst AreDistinct (sym (names_touched terms logs plans)) d)

by_touch : (terms : Terms) (logs : FinMap name_cmp (List LogLine)) (name : List ℕ) (o : Option Touch) (before : Option Target) → target_of (option_map (change_for terms logs name) o) before ≡ target_by terms o before
by_touch terms logs name None before = refl
by_touch terms logs name (Some touch) before = refl

log_by_touch : (terms : Terms) (logs : FinMap name_cmp (List LogLine)) (name : List ℕ) (o : Option Touch) (before : Option (List LogLine)) → log_of (option_map (change_for terms logs name) o) before ≡ log_by terms (contains_key logs name) o before
log_by_touch terms logs name None before = refl
log_by_touch terms logs name (Some touch) before = refl

pub changes_make_edits : ChangesMakeEdits
changes_make_edits terms plans refs d = record {
  targets = λ name. targets_by_name (all_changes terms refs.logs plans) refs.targets name (distinct_touched terms refs.logs plans d)
      ∙ ap (λ o. target_of o (get refs.targets name)) (found_change terms refs.logs (touches plans) name) ∙ by_touch terms refs.logs name (touch_at name plans) (get refs.targets name);
  logs = λ name. logs_by_name (all_changes terms refs.logs plans) refs.logs name (distinct_touched terms refs.logs plans d)
      ∙ ap (λ o. log_of o (get refs.logs name)) (found_change terms refs.logs (touches plans) name) ∙ log_by_touch terms refs.logs name (touch_at name plans) (get refs.logs name);
}

exact_names : IsAntisymmetric name_cmp
exact_names = slice_cmp-IsAntisymmetric nat_cmp-IsAntisymmetric

pub one_result : OneResult
one_result terms plans old one other a b =
    let targets : one.targets ≡ other.targets = same_map nat_list_cmp_total exact_names one.targets other.targets (λ name. a.targets name ∙ sym (b.targets name)) in
    let logs : one.logs ≡ other.logs = same_map nat_list_cmp_total exact_names one.logs other.logs (λ name. a.logs name ∙ sym (b.logs name)) in
    λ i. record { targets = targets i; logs = logs i }

-- ---- plans that share no name touch each name once

pub among_append : (name : List ℕ) (xs ys : List (List ℕ)) → is_among name (xs ++ ys) ≡ (is_among name xs || is_among name ys)
among_append name [] ys = refl
among_append name (x ∷ xs) ys = ap (λ t. bytes_eq x name || t) (among_append name xs ys) ∙ sym (or_assoc (bytes_eq x name) (is_among name xs) (is_among name ys))
  where
    or_assoc : (a b c : Bool) → ((a || b) || c) ≡ (a || (b || c))
    or_assoc true b c = refl
    or_assoc false b c = refl

-- lists of distinct names that share none
distinct_append : (xs ys : List (List ℕ)) → AreDistinct xs → AreDistinct ys → ((name : List ℕ) → is_among name xs ≡ true → is_among name ys ≡ false) → AreDistinct (xs ++ ys)
distinct_append [] ys d e h = e
distinct_append (x ∷ xs) ys d e h = (
  among_append x xs ys ∙ nor (is_among x xs) (is_among x ys) d.0 (h x (ap (λ t. t || is_among x xs) (own_name x))),
  distinct_append xs ys d.1 e (λ name k. h name (later (bytes_eq x name) (is_among name xs) k)),
)
  where
    later : (a b : Bool) → b ≡ true → (a || b) ≡ true
    later true b k = refl
    later false b k = k

not_true : (t : Bool) → (t ≡ true → ⊥) → t ≡ false
not_true true h = absurd (h refl)
not_true false h = refl

-- what a plan touches is on its way
pub touched_on_way : (plan : Plan) (change : Change) (name : List ℕ) → is_among name (stored_names (touched_by change plan.way)) ≡ true → is_among name (names_of plan.way) ≡ true
touched_on_way plan (Update log expected new) name k = k
touched_on_way plan (Delete expected log) name k =
    ap (is_among name) (map_append (λ (place : Place). place.name) plan.way.before (plan.way.end ∷ [])) ∙ among_append name (stored_names plan.way.before) (plan.way.end.name ∷ []) ∙ at (is_among name (stored_names plan.way.before))
  where
    at : (t : Bool) → (t || is_among name (plan.way.end.name ∷ [])) ≡ true
    at true = refl
    at false = k

apart_from : (plan : Plan) (plans : List Plan) (name : List ℕ) → AllByRecursion (λ other. (name : List ℕ) → ¬ Share plan other name) plans → is_among name (touched_names plan) ≡ true → is_among name (flat_map touched_names plans) ≡ false
apart_from plan [] name a k = refl
apart_from plan (other ∷ plans) name a k = among_append name (touched_names other) (flat_map touched_names plans)
    ∙ nor _ _ (not_true (is_among name (touched_names other)) (λ t. a.0 name (inl (touched_on_way plan plan.edit.change name k, t)))) (apart_from plan plans name a.1 k)

touched_distinct : (plan : Plan) (change : Change) → AreDistinct (names_of plan.way) → AreDistinct (stored_names (touched_by change plan.way))
touched_distinct plan (Update log expected new) d = d
touched_distinct plan (Delete expected log) d = (refl, tt)

pub all_distinct : (plans : List Plan) → AllByRecursion (λ (plan : Plan). AreDistinct (names_of plan.way)) plans → ShareNone plans → AreDistinct (flat_map touched_names plans)
all_distinct [] d s = tt
all_distinct (plan ∷ plans) d s = distinct_append (touched_names plan) (flat_map touched_names plans) (touched_distinct plan plan.edit.change d.0) (all_distinct plans d.1 s.1) (λ name k. apart_from plan plans name s.0 k)
