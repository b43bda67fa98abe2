-- The changes of edits: at a place, along places, of all edits.
use Rattle.std.proofs.Common.{◌≡◌, ◌∙◌, sym, ap, refl, ℕ, Bool, true, false, cond, ◌||◌, ◌<◌, ◌+◌, subst, List, [], ◌∷◌, ◌++◌, length, take, drop, get_or, append_assoc, map, Option, Some, None, IfSome, Result, Ok, Err, IfOk, Contains}
use Rattle.std.specs.List.{flat_map, AllByRecursion}
use Rattle.std.specs.FinMap.{FinMap, empty, contains_key}
use Rattle.std.specs.Str.{bytes_eq}
use Rattle.std.proofs.lemmas.List.{take_more, take-append-drop, append-nil}
use Rattle.std.proofs.lemmas.List.Elements.{Contains-append_left, Contains-push, Contains-get_or}
use Rattle.std.proofs.lemmas.Grind.{flat_map-append}
use Rattle.gx_hash.specs.HashKind.{kind_of}
use Rattle.gx_hash.specs.declared.kind.HashKind.{HashKind}
use Rattle.gx_hash.specs.declared.oid.ObjectId.{ObjectId}
use Rattle.gx_object.specs.Identity.{is_writable_identity}
use Rattle.gx_object.specs.declared.signature.Signature.{Signature}
use Rattle.gx_rules.specs.Name.{name_cmp}
use Rattle.gx_store.specs.Change.{HaveDistinctNames, refs_after}
use Rattle.gx_store.specs.Kinds.{IsTargetOfKind, IsTargetChangeOfKind, IsActOfKind, AreChangesOfKind}
use Rattle.gx_store.specs.State.{StoreState, RefState, OfFault}
use Rattle.gx_store.specs.declared.change.LogAct.{LogAct}
use Rattle.gx_store.specs.declared.change.LogAct.TheVariants as log_act
use Rattle.gx_store.specs.declared.change.RefChange.{RefChange}
use Rattle.gx_store.specs.declared.change.TargetChange.{TargetChange}
use Rattle.gx_store.specs.declared.change.TargetChange.TheVariants as target_change
use Rattle.gx_store.specs.declared.error.StoreError.{StoreError}
use Rattle.gx_store.specs.declared.error.StoreError.TheVariants as store_error
use Rattle.gx_store.specs.declared.log_line.LogLine.{LogLine}
use Rattle.gx_store.specs.declared.target.Target.{Target}
use Rattle.gx_store.specs.declared.target.Target.TheVariants as target
use Rattle.gx_refs.specs.Chain.{AreDistinct}
use Rattle.gx_refs.specs.Changing.{IsDue, IsLogChangeBy, LogCauses, IsSignedBy, IsSigned, AreSigned, IsPlanOfKind, IsChangeOfKind, SomeChangeCauses}
use Rattle.gx_refs.specs.EditCauses.{CanSign, CannotSign, ChangeCauses}
use Rattle.gx_refs.specs.Edits.{EditsReferences, HasLogThere, end_change, target_change_at, is_logged, line_by, log_change_by, change_by, change_of, IsChange, AreChanges}
use Rattle.gx_refs.specs.Errors.{of_store}
use Rattle.gx_refs.specs.Log.{is_made, is_due_where, IsLogFault, log_line}
use Rattle.gx_refs.specs.Moving.{previous_id}
use Rattle.gx_refs.specs.Plan.{Touch, touched, touched_names, touches_at, touches_of, touches}
use Rattle.gx_refs.specs.Prepared.{SetsKind}
use Rattle.gx_refs.specs.declared.edit.Change.{Change}
use Rattle.gx_refs.specs.declared.edit.Change.TheVariants.{Update, Delete}
use Rattle.gx_refs.specs.declared.edit.LogChange.{LogChange}
use Rattle.gx_refs.specs.declared.edit.PreviousValue.{PreviousValue}
use Rattle.gx_refs.specs.declared.edit.RefLog.{RefLog}
use Rattle.gx_refs.specs.declared.edit.RefLog.TheVariants.{AndReference, Only}
use Rattle.gx_refs.specs.declared.error.RefError.{RefError}
use Rattle.gx_refs.specs.declared.error.RefError.TheVariants as refusal
use Rattle.gx_refs.specs.declared.log.WriteReflog.{WriteReflog}
use Rattle.gx_refs.specs.declared.log.WriteReflog.TheVariants.{Normal}
use Rattle.gx_refs.specs.declared.plan.Place.{Place}
use Rattle.gx_refs.specs.declared.plan.Plan.{Plan}
use Rattle.gx_refs.specs.declared.terms.Terms.{Terms}
use Rattle.gx_refs.proofs.EditLemmas.{names_touched, changes_make_edits, map_append}
use Rattle.gx_refs.proofs.MovingLemmas.{line_of_kind}
use Rattle.gx_refs.proofs.NameLemmas.{distinct_changes}

-- ---- lists

-- a list before an element, the element, and the rest
pub split_at : {X : Type 0} (xs : List X) (i : ℕ) (x : X) → i < length xs → x ≡ get_or xs i x → xs ≡ take i xs ++ x ∷ drop (i + 1) xs
split_at xs i x h is =
    sym (take-append-drop (i + 1) xs)
    ∙ ap (λ front. front ++ drop (i + 1) xs) (take_more xs i x h ∙ ap (λ y. take i xs ++ y ∷ []) (sym is))
    ∙ append_assoc (take i xs) (x ∷ []) (drop (i + 1) xs)

pub contains_at : {X : Type 0} (xs : List X) (i : ℕ) (x : X) → i < length xs → x ≡ get_or xs i x → Contains xs x
contains_at xs i x h is = subst (Contains xs) (sym is) (Contains-get_or xs i x h)

-- ---- whether a line is due

some_log : (told : Option RefState) (place : Place) → (has_log : Bool) × HasLogThere told place has_log
some_log None place = (true, tt)
some_log (Some refs) place = (contains_key refs.logs place.name, refl)

-- it is due or not, whichever logs there are
pub due_anyway : (told : Option RefState) (mode : WriteReflog) (force : Bool) (place : Place) (due : Bool) → ((has_log : Bool) → due ≡ is_due_where mode force has_log place.shown) → IsDue told mode force place due
due_anyway told mode force place due h = let l = some_log told place in (l.0, l.1, h l.0)

pub due_by_log : (told : Option RefState) (force : Bool) (place : Place) (r : Result Bool StoreError) → force ≡ false → is_made Normal place.shown ≡ false → IfOk r (λ has_log. IfSome told (λ refs. has_log ≡ contains_key refs.logs place.name)) → IfOk r (IsDue told Normal force place)
due_by_log told force place (Err e) off not_made h = tt
due_by_log told force place (Ok has_log) off not_made h =
    (has_log, h, sym (ap (λ t. t || is_made Normal place.shown || has_log) off ∙ ap (λ t. t || has_log) not_made))

-- ---- the log at a place

module _ (state : StoreState) (terms : Terms) (place : Place) (log : LogChange) (expected : PreviousValue) (id : ObjectId) where
  abbrev update : Change
  update = Update log expected (target.Object id)

  pub not_due : (found : Option Target) (due : Bool) → IsDue state.references terms.mode log.force_create_reflog place due → due ≡ false → IsLogChangeBy state.references terms update found place log_act.Keep
  not_due found due (has_log, there, is) off =
      (has_log, there, sym (ap (λ t. log_change_by terms update found t) (sym is ∙ off)))

  pub line_due : (found : Option Target) (due : Bool) (who : Signature) (kind : HashKind) (previous : ObjectId) (line : LogLine) → IsDue state.references terms.mode log.force_create_reflog place due → due ≡ true → terms.committer ≡ Some who → line ≡ log_line previous id who log.message → previous ≡ previous_id kind found → kind ≡ kind_of id → IsLogChangeBy state.references terms update found place (log_act.Append line)
  line_due found due who kind previous line (has_log, there, is) on by told prev k =
      let old : previous ≡ previous_id (kind_of id) found = prev ∙ ap (λ x. previous_id x found) k in
      let same : line ≡ log_line (previous_id (kind_of id) found) id who log.message = told ∙ ap (λ x. log_line x id who log.message) old in
      let signed_by : line_by terms.committer (λ w. log_line (previous_id (kind_of id) found) id w log.message) ≡ log_act.Append (log_line (previous_id (kind_of id) found) id who log.message) = ap (λ c. line_by c (λ w. log_line (previous_id (kind_of id) found) id w log.message)) by in
      (has_log, there, ap log_act.Append same ∙ sym signed_by ∙ sym (ap (λ t. log_change_by terms update found t) (sym is ∙ on)))

  pub unsigned : (due : Bool) → IsDue state.references terms.mode log.force_create_reflog place due → due ≡ false → IsSignedBy state.references terms update place
  unsigned due (has_log, there, is) off = λ sure. let clash : true ≡ false = sym (sure has_log there) ∙ sym is ∙ off in cc

  pub signed : (who : Signature) → terms.committer ≡ Some who → is_writable_identity who ≡ true → IsSignedBy state.references terms update place
  signed who by w = λ sure. subst CanSign (sym by) w

  pub sign_refused : (due : Bool) (e : RefError) → IsDue state.references terms.mode log.force_create_reflog place due → due ≡ true → CannotSign terms.committer e → LogCauses terms state update place e
  sign_refused due refusal.MissingCommitter (has_log, there, is) on h = ((has_log, there, sym is ∙ on), h)
  sign_refused due (refusal.Unwritable f) (has_log, there, is) on h = ((has_log, there, sym is ∙ on), h)
  sign_refused due refusal.NoMemory d on h = tt
  sign_refused due (refusal.Store f) d on h = absurd h
  sign_refused due (refusal.Cycle n) d on h = absurd h
  sign_refused due (refusal.DepthLimitExceeded n) d on h = absurd h
  sign_refused due (refusal.NameValidation error) d on h = absurd h
  sign_refused due (refusal.MustExist n) d on h = absurd h
  sign_refused due (refusal.MustNotExist n a) d on h = absurd h
  sign_refused due (refusal.ReferenceOutOfDate n x a) d on h = absurd h
  sign_refused due (refusal.NameConflict n w) d on h = absurd h
  sign_refused due (refusal.DuplicateEdit n) d on h = absurd h

  pub due_unread : (e : StoreError) → OfFault e (IsLogFault state terms.mode log.force_create_reflog place.shown place.name) → LogCauses terms state update place (of_store e)
  due_unread store_error.NoMemory h = tt
  due_unread (store_error.Fault fault) h = (h.0, h.1)

-- an edit that writes no line
pub delete_removes : (told : Option RefState) (terms : Terms) (found : Option Target) (place : Place) (change : Change) (expected : PreviousValue) (log : RefLog) → change ≡ Delete expected log → IsLogChangeBy told terms change found place log_act.Remove
delete_removes told terms found place change expected log e =
    let l = some_log told place in
    (l.0, l.1, sym (ap (λ c. log_change_by terms c found (is_logged terms c l.0 place.shown)) e))

unlogged : (told : Option RefState) (terms : Terms) (change : Change) (place : Place) → ((has_log : Bool) → is_logged terms change has_log place.shown ≡ false) → IsSignedBy told terms change place
unlogged told terms change place h = λ sure.
    let l = some_log told place in
    let clash : true ≡ false = sym (sure l.0 l.1) ∙ h l.0 in
    cc

pub delete_signed : (told : Option RefState) (terms : Terms) (place : Place) (change : Change) (expected : PreviousValue) (log : RefLog) → change ≡ Delete expected log → IsSignedBy told terms change place
delete_signed told terms place change expected log e = unlogged told terms change place (λ has_log. ap (λ c. is_logged terms c has_log place.shown) e)

pub symbolic_keeps : (told : Option RefState) (terms : Terms) (found : Option Target) (place : Place) (log : LogChange) (new : Target) → ((id : ObjectId) → new ≡ target.Object id → ⊥) → (expected : PreviousValue) → IsLogChangeBy told terms (Update log expected new) found place log_act.Keep
symbolic_keeps told terms found place log (target.Object id) other expected = absurd (other id refl)
symbolic_keeps told terms found place log (target.Symbolic to) other expected = let l = some_log told place in (l.0, l.1, refl)

pub symbolic_signed : (told : Option RefState) (terms : Terms) (place : Place) (log : LogChange) (new : Target) → ((id : ObjectId) → new ≡ target.Object id → ⊥) → (expected : PreviousValue) → IsSignedBy told terms (Update log expected new) place
symbolic_signed told terms place log (target.Object id) other expected = absurd (other id refl)
symbolic_signed told terms place log (target.Symbolic to) other expected = unlogged told terms (Update log expected (target.Symbolic to)) place (λ has_log. refl)

-- ---- the change at a place

pub log_refused : (terms : Terms) (state : StoreState) (plan : Plan) (place : Place) (e : RefError) → Contains (touched plan) place → LogCauses terms state plan.edit.change place e → ChangeCauses terms state plan e
log_refused terms state plan place refusal.MissingCommitter at ((has_log, there, on), h) = (record { place = place; touches = at; has_log = has_log; there = there; due = on }, h)
log_refused terms state plan place (refusal.Unwritable f) at ((has_log, there, on), h) = (record { place = place; touches = at; has_log = has_log; there = there; due = on }, h)
log_refused terms state plan place (refusal.Store f) at h = record { place = place; touches = at; decides = h.0; unreadable = h.1 }
log_refused terms state plan place refusal.NoMemory at h = tt
log_refused terms state plan place (refusal.Cycle n) at h = absurd h
log_refused terms state plan place (refusal.DepthLimitExceeded n) at h = absurd h
log_refused terms state plan place (refusal.NameValidation error) at h = absurd h
log_refused terms state plan place (refusal.MustExist n) at h = absurd h
log_refused terms state plan place (refusal.MustNotExist n a) at h = absurd h
log_refused terms state plan place (refusal.ReferenceOutOfDate n x a) at h = absurd h
log_refused terms state plan place (refusal.NameConflict n w) at h = absurd h
log_refused terms state plan place (refusal.DuplicateEdit n) at h = absurd h

stored_of_kind : (hash : HashKind) (space : List ℕ) (change : Change) → SetsKind hash change → IsTargetChangeOfKind hash (end_change space change)
stored_of_kind hash space (Update log expected new) k = go log.mode new k
  where
    go : (mode : RefLog) (new : Target) → IsTargetOfKind hash new → IsTargetChangeOfKind hash (end_change space (Update (record log { mode = mode }) expected new))
    go AndReference (target.Object id) k = k
    go AndReference (target.Symbolic name) k = tt
    go Only new k = tt
stored_of_kind hash space (Delete expected AndReference) k = tt
stored_of_kind hash space (Delete expected Only) k = tt

target_of_kind : (hash : HashKind) (terms : Terms) (touch : Touch) → IsPlanOfKind hash touch.plan → IsTargetChangeOfKind hash (target_change_at terms touch)
target_of_kind hash terms touch k = go (bytes_eq touch.place.name touch.plan.way.end.name)
  where
    go : (t : Bool) → IsTargetChangeOfKind hash (cond t (end_change terms.space touch.plan.edit.change) target_change.Keep)
    go true = stored_of_kind hash terms.space touch.plan.edit.change k.0
    go false = tt

pub change_of_kind : (hash : HashKind) (terms : Terms) (touch : Touch) (made : TargetChange) (act : LogAct) → made ≡ target_change_at terms touch → IsPlanOfKind hash touch.plan → IsActOfKind hash act → IsTargetChangeOfKind hash made × IsActOfKind hash act
change_of_kind hash terms touch made act is k a = (subst (IsTargetChangeOfKind hash) (sym is) (target_of_kind hash terms touch k), a)

-- ---- loops

pub joined : (told : Option RefState) (terms : Terms) (ts us : List Touch) (changes more : List RefChange) → AreChanges told terms ts changes → AreChanges told terms us more → AreChanges told terms (ts ++ us) (changes ++ more)
joined told terms [] us [] more a b = b
joined told terms [] us (c ∷ changes) more a b = absurd a
joined told terms (t ∷ ts) us [] more a b = absurd a
joined told terms (t ∷ ts) us (c ∷ changes) more a b = (a.0, joined told terms ts us changes more a.1 b)

pub all_joined : {X : Type 0} (P : X → Type 0) (xs ys : List X) → AllByRecursion P xs → AllByRecursion P ys → AllByRecursion P (xs ++ ys)
all_joined P [] ys a b = b
all_joined P (x ∷ xs) ys a b = (a.0, all_joined P xs ys a.1 b)

abbrev touch_of : Plan → Place → Touch
touch_of plan place = record { plan = plan; place = place }

-- the touches at one place more
touches_more : (plan : Plan) (places : List Place) (i : ℕ) (place : Place) → i < length places → place ≡ get_or places i place → touches_at plan (take (i + 1) places) ≡ touches_at plan (take i places) ++ touch_of plan place ∷ []
touches_more plan places i place h is =
    ap (touches_at plan) (take_more places i place h ∙ ap (λ x. take i places ++ x ∷ []) (sym is)) ∙ map_append (touch_of plan) (take i places) (place ∷ [])

pub change_more : (told : Option RefState) (terms : Terms) (plan : Plan) (places : List Place) (i : ℕ) (place : Place) (changes : List RefChange) (change : RefChange) → i < length places → place ≡ get_or places i place → AreChanges told terms (touches_at plan (take i places)) changes → IsChange told terms (touch_of plan place) change → AreChanges told terms (touches_at plan (take (i + 1) places)) (changes ++ change ∷ [])
change_more told terms plan places i place changes change h is a c =
    subst (λ ts. AreChanges told terms ts (changes ++ change ∷ [])) (sym (touches_more plan places i place h is))
    (joined told terms (touches_at plan (take i places)) (touch_of plan place ∷ []) changes (change ∷ []) a (c, tt))

pub signed_more : (told : Option RefState) (terms : Terms) (plan : Plan) (places : List Place) (i : ℕ) (place : Place) → i < length places → place ≡ get_or places i place → AreSigned told terms (touches_at plan (take i places)) → IsSigned told terms (touch_of plan place) → AreSigned told terms (touches_at plan (take (i + 1) places))
signed_more told terms plan places i place h is a s =
    subst (AreSigned told terms) (sym (touches_more plan places i place h is))
    (all_joined (IsSigned told terms) (touches_at plan (take i places)) (touch_of plan place ∷ []) a (s, tt))

pub kinds_more : (hash : HashKind) (changes : List RefChange) (change : RefChange) → AreChangesOfKind hash changes → IsChangeOfKind hash change → AreChangesOfKind hash (changes ++ change ∷ [])
kinds_more hash changes change a k = all_joined (IsChangeOfKind hash) changes (change ∷ []) a (k, tt)

-- the touches of one edit more
plans_more : (plans : List Plan) (i : ℕ) (plan : Plan) → i < length plans → plan ≡ get_or plans i plan → touches (take (i + 1) plans) ≡ touches (take i plans) ++ touches_of plan
plans_more plans i plan h is =
    ap touches (take_more plans i plan h ∙ ap (λ x. take i plans ++ x ∷ []) (sym is)) ∙ flat_map-append touches_of (take i plans) (plan ∷ []) ∙ ap (λ ts. touches (take i plans) ++ ts) (append-nil (touches_of plan))

pub plan_more : (told : Option RefState) (terms : Terms) (plans : List Plan) (i : ℕ) (plan : Plan) (changes more : List RefChange) → i < length plans → plan ≡ get_or plans i plan → AreChanges told terms (touches (take i plans)) changes → AreChanges told terms (touches_of plan) more → AreChanges told terms (touches (take (i + 1) plans)) (changes ++ more)
plan_more told terms plans i plan changes more h is a m =
    subst (λ ts. AreChanges told terms ts (changes ++ more)) (sym (plans_more plans i plan h is)) (joined told terms (touches (take i plans)) (touches_of plan) changes more a m)

pub plan_signed : (told : Option RefState) (terms : Terms) (plans : List Plan) (i : ℕ) (plan : Plan) → i < length plans → plan ≡ get_or plans i plan → AreSigned told terms (touches (take i plans)) → AreSigned told terms (touches_of plan) → AreSigned told terms (touches (take (i + 1) plans))
plan_signed told terms plans i plan h is a m =
    subst (AreSigned told terms) (sym (plans_more plans i plan h is)) (all_joined (IsSigned told terms) (touches (take i plans)) (touches_of plan) a m)

-- ---- one edit: the places before its end, and the end

end_touched : (plan : Plan) (before : List Place) → touched plan ≡ before ++ plan.way.end ∷ [] → touches_of plan ≡ touches_at plan before ++ touch_of plan plan.way.end ∷ []
end_touched plan before is = ap (touches_at plan) is ∙ map_append (touch_of plan) before (plan.way.end ∷ [])

pub last_change : (told : Option RefState) (terms : Terms) (plan : Plan) (before : List Place) (changes : List RefChange) (last : RefChange) → touched plan ≡ before ++ plan.way.end ∷ [] → AreChanges told terms (touches_at plan before) changes → IsChange told terms (touch_of plan plan.way.end) last → AreChanges told terms (touches_of plan) (changes ++ last ∷ [])
last_change told terms plan before changes last is a c =
    subst (λ ts. AreChanges told terms ts (changes ++ last ∷ [])) (sym (end_touched plan before is))
    (joined told terms (touches_at plan before) (touch_of plan plan.way.end ∷ []) changes (last ∷ []) a (c, tt))

pub last_signed : (told : Option RefState) (terms : Terms) (plan : Plan) (before : List Place) → touched plan ≡ before ++ plan.way.end ∷ [] → AreSigned told terms (touches_at plan before) → IsSigned told terms (touch_of plan plan.way.end) → AreSigned told terms (touches_of plan)
last_signed told terms plan before is a s =
    subst (AreSigned told terms) (sym (end_touched plan before is)) (all_joined (IsSigned told terms) (touches_at plan before) (touch_of plan plan.way.end ∷ []) a (s, tt))

pub before_touched : (plan : Plan) (before : List Place) (place : Place) → touched plan ≡ before ++ plan.way.end ∷ [] → Contains before place → Contains (touched plan) place
before_touched plan before place is at = subst (λ ps. Contains ps place) (sym is) (Contains-append_left before (plan.way.end ∷ []) place at)

pub end_is_touched : (plan : Plan) (before : List Place) → touched plan ≡ before ++ plan.way.end ∷ [] → Contains (touched plan) plan.way.end
end_is_touched plan before is = subst (λ ps. Contains ps plan.way.end) (sym is) (Contains-push before plan.way.end)

pub some_refused : (terms : Terms) (state : StoreState) (plans : List Plan) (plan : Plan) (e : RefError) → Contains plans plan → ChangeCauses terms state plan e → SomeChangeCauses terms state plans e
some_refused terms state plans plan refusal.NoMemory at h = tt
some_refused terms state plans plan refusal.MissingCommitter at h = (plan, at, h)
some_refused terms state plans plan (refusal.Unwritable f) at h = (plan, at, h)
some_refused terms state plans plan (refusal.Store f) at h = (plan, at, h)
some_refused terms state plans plan (refusal.NameValidation error) at h = (plan, at, h)
some_refused terms state plans plan (refusal.Cycle n) at h = (plan, at, h)
some_refused terms state plans plan (refusal.DepthLimitExceeded n) at h = (plan, at, h)
some_refused terms state plans plan (refusal.MustExist n) at h = (plan, at, h)
some_refused terms state plans plan (refusal.MustNotExist n a) at h = (plan, at, h)
some_refused terms state plans plan (refusal.ReferenceOutOfDate n x a) at h = (plan, at, h)
some_refused terms state plans plan (refusal.NameConflict n w) at h = (plan, at, h)
some_refused terms state plans plan (refusal.DuplicateEdit n) at h = (plan, at, h)

-- ---- all changes

changes_told : (refs : RefState) (terms : Terms) (ts : List Touch) (changes : List RefChange) → AreChanges (Some refs) terms ts changes → changes ≡ map (change_of terms refs.logs) ts
changes_told refs terms [] [] a = refl
changes_told refs terms [] (c ∷ changes) a = absurd a
changes_told refs terms (t ∷ ts) [] a = absurd a
changes_told refs terms (t ∷ ts) (c ∷ changes) ((has_log, there, is), a) =
    ap (λ x. x ∷ changes) (is ∙ ap (λ b. change_by terms b t) there) ∙ ap (λ xs. change_of terms refs.logs t ∷ xs) (changes_told refs terms ts changes a)

same_names : (told : Option RefState) (terms : Terms) (ts : List Touch) (changes : List RefChange) (logs : FinMap name_cmp (List LogLine)) → AreChanges told terms ts changes → map (λ (change : RefChange). change.name) changes ≡ map (λ (change : RefChange). change.name) (map (change_of terms logs) ts)
same_names told terms [] [] logs a = refl
same_names told terms [] (c ∷ changes) logs a = absurd a
same_names told terms (t ∷ ts) [] logs a = absurd a
same_names told terms (t ∷ ts) (c ∷ changes) logs ((has_log, there, is), a) =
    ap (λ (x : RefChange). x.name ∷ map (λ (change : RefChange). change.name) changes) is ∙ ap (λ xs. t.place.name ∷ xs) (same_names told terms ts changes logs a)

pub distinct_names : (told : Option RefState) (terms : Terms) (plans : List Plan) (changes : List RefChange) → AreChanges told terms (touches plans) changes → AreDistinct (flat_map touched_names plans) → HaveDistinctNames changes
distinct_names told terms plans changes a d =
    distinct_changes changes (subst AreDistinct (sym (same_names told terms (touches plans) changes empty a ∙ names_touched terms empty plans)) d)

pub changes_make : (told : Option RefState) (terms : Terms) (plans : List Plan) (changes : List RefChange) → AreChanges told terms (touches plans) changes → AreDistinct (flat_map touched_names plans) → IfSome told (λ refs. EditsReferences terms plans refs (refs_after changes refs))
changes_make None terms plans changes a d = tt
changes_make (Some refs) terms plans changes a d =
    subst (λ xs. EditsReferences terms plans refs (refs_after xs refs)) (sym (changes_told refs terms (touches plans) changes a)) (changes_make_edits terms plans refs d)

-- what all have, each has
pub all_at : {X : Type 0} (P : X → Type 0) (xs : List X) (i : ℕ) (x : X) → i < length xs → x ≡ get_or xs i x → AllByRecursion P xs → P x
all_at {X} P xs i x h is a = go (take i xs) (subst (AllByRecursion P) (split_at xs i x h is) a)
  where
    go : (front : List X) → AllByRecursion P (front ++ x ∷ drop (i + 1) xs) → P x
    go [] b = b.0
    go (y ∷ front) b = go front b.1

pub ruleset lines = (not_due, line_due, unsigned, signed, sign_refused, due_unread, line_of_kind)

pub ruleset whole_edits = (last_change, last_signed, before_touched, end_is_touched, kinds_more)
