-- The changes that move the end of a chain.
use Rattle.std.proofs.Common.{◌≡◌, ◌∙◌, ◌<◌, ◌≤◌, ◌+◌, ◌-◌, sym, ap, refl, subst, ℕ, Bool, true, false, cond, ◌||◌, List, [], ◌∷◌, ◌++◌, length, take, drop, get_or, map, filter, Option, Some, None, IfSome, arith}
use Rattle.std.proofs.lemmas.List.{take_more, take_all, take-append-drop, at_drop_more, append_assoc}
use Rattle.std.specs.Str.{bytes_eq}
use Rattle.std.specs.List.{AllZip, AllByRecursion}
use Rattle.std.specs.FinMap.{FinMap, insert}
use Rattle.gx_hash.specs.declared.kind.HashKind.{HashKind}
use Rattle.gx_hash.specs.declared.kind.HashKind.TheVariants.{Sha1, Sha256}
use Rattle.gx_hash.specs.declared.oid.ObjectId.{ObjectId}
use Rattle.gx_hash.specs.HashKind.{IsOfKind, kind_of}
use Rattle.gx_hash.specs.ObjectId.{null_id}
use Rattle.gx_object.specs.declared.signature.Signature.{Signature}
use Rattle.gx_rules.specs.Name.{name_cmp}
use Rattle.gx_store.specs.State.{StoreState, RefState, OfFault}
use Rattle.gx_store.specs.Change.{refs_after, targets_after, logs_after, with_log, HaveDistinctNames}
use Rattle.gx_store.specs.Kinds.{IsTargetOfKind, IsLineOfKind, IsTargetChangeOfKind, IsActOfKind, AreChangesOfKind}
use Rattle.gx_store.specs.declared.target.Target.{Target}
use Rattle.gx_store.specs.declared.target.Target.TheVariants as target
use Rattle.gx_store.specs.declared.log_line.LogLine.{LogLine}
use Rattle.gx_store.specs.declared.change.TargetChange.{TargetChange}
use Rattle.gx_store.specs.declared.change.TargetChange.TheVariants.{Keep, Set}
use Rattle.gx_store.specs.declared.change.RefChange.{RefChange}
use Rattle.gx_store.specs.declared.error.StoreError.{StoreError}
use Rattle.gx_store.specs.declared.error.StoreError.TheVariants.{NoMemory, Fault}
use Rattle.gx_refs.specs.Chain.{is_among, AreDistinct}
use Rattle.gx_refs.specs.Log.{is_due, is_due_where, IsLogFault, with_line, log_line}
use Rattle.gx_refs.specs.Moving.{previous_id, moved, act_of, change_at, IsChangeAt, targets_along, MovesAlong, IsFaultAt}
use Rattle.gx_refs.specs.declared.log.WriteReflog.{WriteReflog}
use Rattle.gx_refs.proofs.NameLemmas.{own_name, last_same, distinct_changes}

-- ---- what the changes of the way make, whichever names a line is due for

abbrev keeps : (List ℕ → Bool) → LogLine → List ℕ → RefChange
keeps due line name = change_at (due name) name Keep line

targets_moved : (due : List ℕ → Bool) (line : LogLine) (way : List (List ℕ)) (end : List ℕ) (t : Target) (targets : FinMap name_cmp Target) → targets_after (map (keeps due line) way ++ change_at (due end) end (Set t) line ∷ []) targets ≡ insert targets end t
targets_moved due line [] end t targets = refl
targets_moved due line (name ∷ way) end t targets = targets_moved due line way end t targets

one_logged : (due : Bool) (name : List ℕ) (line : LogLine) (names : List (List ℕ)) (logs : FinMap name_cmp (List LogLine)) → with_line names line (with_log name (act_of due line) logs) ≡ with_line (cond due (name ∷ names) names) line logs
one_logged true name line names logs = refl
one_logged false name line names logs = refl

all_logged : (due : List ℕ → Bool) (line : LogLine) (way : List (List ℕ)) (end : List ℕ) (aim : TargetChange) (logs : FinMap name_cmp (List LogLine)) → logs_after (map (keeps due line) way ++ change_at (due end) end aim line ∷ []) logs ≡ with_line (filter due (way ++ end ∷ [])) line logs
all_logged due line [] end aim logs = one_logged (due end) end line [] logs
all_logged due line (name ∷ way) end aim logs = all_logged due line way end aim (with_log name (act_of (due name) line) logs) ∙ one_logged (due name) name line (filter due (way ++ end ∷ [])) logs

-- ---- the loop: changes of the first names of the way

-- The changes of names on the way, whichever logs there are, and exactly where the logs are told.
pub record AreKept (mode : WriteReflog) (line : LogLine) (told : Option RefState) (way : List (List ℕ)) (changes : List RefChange) : Type 0 where
  pub each : AllZip (λ name change. IsChangeAt mode name Keep line change) way changes
  pub all : IfSome told (λ refs. changes ≡ map (keeps (is_due mode refs.logs false) line) way)

pub none_kept : (mode : WriteReflog) (line : LogLine) (told : Option RefState) → AreKept mode line told [] []
none_kept mode line None = record { each = tt; all = tt }
none_kept mode line (Some refs) = record { each = tt; all = refl }

zip_more : {A B : Type 0} (R : A → B → Type 0) (xs : List A) (ys : List B) (x : A) (y : B) → AllZip R xs ys → R x y → AllZip R (xs ++ x ∷ []) (ys ++ y ∷ [])
zip_more R [] [] x y h r = (r, tt)
zip_more R [] (b ∷ ys) x y h r = absurd h
zip_more R (a ∷ xs) [] x y h r = absurd h
zip_more R (a ∷ xs) (b ∷ ys) x y h r = (h.0, zip_more R xs ys x y h.1 r)

map_more : {A B : Type 0} (f : A → B) (xs : List A) (x : A) → map f (xs ++ x ∷ []) ≡ map f xs ++ f x ∷ []
map_more f [] x = refl
map_more f (a ∷ xs) x = ap (λ ys. f a ∷ ys) (map_more f xs x)

kept_then : (mode : WriteReflog) (line : LogLine) (told : Option RefState) (way : List (List ℕ)) (changes : List RefChange) (name : List ℕ) (change : RefChange) → AreKept mode line told way changes → IsChangeAt mode name Keep line change
    → IfSome told (λ refs. change ≡ change_at (is_due mode refs.logs false name) name Keep line) → AreKept mode line told (way ++ name ∷ []) (changes ++ change ∷ [])
kept_then mode line None way changes name change k h t = record { each = zip_more _ way changes name change k.each h; all = tt }
kept_then mode line (Some refs) way changes name change k h t = record {
  each = zip_more _ way changes name change k.each h;
  all = ap (λ xs. xs ++ change ∷ []) k.all ∙ ap (λ c. map (keeps (is_due mode refs.logs false) line) way ++ c ∷ []) t ∙ sym (map_more (keeps (is_due mode refs.logs false) line) way name);
}

pub one_kept : (mode : WriteReflog) (line : LogLine) (told : Option RefState) (way : List (List ℕ)) (i : ℕ) (name : List ℕ) (changes : List RefChange) (change : RefChange) → i < length way → name ≡ get_or way i name → AreKept mode line told (take i way) changes → IsChangeAt mode name Keep line change
    → IfSome told (λ refs. change ≡ change_at (is_due mode refs.logs false name) name Keep line) → AreKept mode line told (take (i + 1) way) (changes ++ change ∷ [])
one_kept mode line told way i name changes change h is k c t =
    subst (λ xs. AreKept mode line told xs (changes ++ change ∷ [])) (sym (take_more way i name h ∙ ap (λ x. take i way ++ x ∷ []) (sym is))) (kept_then mode line told (take i way) changes name change k c t)

-- ---- the changes of all names

targets_more : (name : List ℕ) (way : List (List ℕ)) (end : List ℕ) (id : ObjectId) → targets_along (name ∷ way ++ end ∷ []) id ≡ Keep ∷ targets_along (way ++ end ∷ []) id
targets_more name [] end id = refl
targets_more name (x ∷ way) end id = refl

pub moves_along : (mode : WriteReflog) (id : ObjectId) (line : LogLine) (way : List (List ℕ)) (end : List ℕ) (changes : List RefChange) (last : RefChange) → AllZip (λ name change. IsChangeAt mode name Keep line change) way changes → IsChangeAt mode end (Set (target.Object id)) line last → MovesAlong mode (way ++ end ∷ []) id line (changes ++ last ∷ [])
moves_along mode id line [] end [] last h (has_log, is) = record {
  named = ap (λ (c : RefChange). c.name ∷ []) is;
  aimed = ap (λ (c : RefChange). c.target ∷ []) is;
  logged = ((has_log, ap (λ (c : RefChange). c.log) is ∙ ap (λ n. act_of (is_due_where mode false has_log n) line) (sym (ap (λ (c : RefChange). c.name) is))), tt);
}
moves_along mode id line [] end (c ∷ changes) last h is = absurd h
moves_along mode id line (name ∷ way) end [] last h is = absurd h
moves_along mode id line (name ∷ way) end (c ∷ changes) last ((has_log, is), h) end_is =
    let rest = moves_along mode id line way end changes last h end_is in record {
      named = ap (λ n. n ∷ map (λ (change : RefChange). change.name) (changes ++ last ∷ [])) (ap (λ (x : RefChange). x.name) is) ∙ ap (λ xs. name ∷ xs) rest.named;
      aimed = ap (λ t. t ∷ map (λ (change : RefChange). change.target) (changes ++ last ∷ [])) (ap (λ (x : RefChange). x.target) is) ∙ ap (λ xs. Keep ∷ xs) rest.aimed ∙ sym (targets_more name way end id);
      logged = ((has_log, ap (λ (x : RefChange). x.log) is ∙ ap (λ n. act_of (is_due_where mode false has_log n) line) (sym (ap (λ (x : RefChange). x.name) is))), rest.logged);
    }

pub distinct_along : (mode : WriteReflog) (names : List (List ℕ)) (id : ObjectId) (line : LogLine) (changes : List RefChange) → MovesAlong mode names id line changes → AreDistinct names → HaveDistinctNames changes
distinct_along mode names id line changes m d = distinct_changes changes (subst AreDistinct (sym m.named) d)

-- ---- kinds

pub null_id_of_kind : (hash : HashKind) → IsOfKind hash (null_id hash)
null_id_of_kind Sha1 = refl
null_id_of_kind Sha256 = refl

pub previous_of_kind : (hash : HashKind) (end : Option Target) → IfSome end (IsTargetOfKind hash) → IsOfKind hash (previous_id hash end)
previous_of_kind hash None h = null_id_of_kind hash
previous_of_kind hash (Some (target.Object id)) h = h
previous_of_kind hash (Some (target.Symbolic name)) h = null_id_of_kind hash

pub line_of_kind : (hash kind : HashKind) (id previous : ObjectId) (end : Option Target) (who : Signature) (message : List ℕ) (line : LogLine) → line ≡ log_line previous id who message → previous ≡ previous_id kind end → kind ≡ kind_of id → IsOfKind hash id → IfSome end (IsTargetOfKind hash) → IsLineOfKind hash line
line_of_kind hash kind id previous end who message line is prev k of_kind h =
    let old : IsOfKind hash previous = subst (IsOfKind hash) (sym (prev ∙ ap (λ x. previous_id x end) (k ∙ of_kind))) (previous_of_kind hash end h) in
    subst (IsLineOfKind hash) (sym is) (old, of_kind)

act_of_kind : (hash : HashKind) (due : Bool) (line : LogLine) → IsLineOfKind hash line → IsActOfKind hash (act_of due line)
act_of_kind hash true line k = k
act_of_kind hash false line k = tt

targets_of_kind : (mode : WriteReflog) (hash : HashKind) (id : ObjectId) (line : LogLine) (names : List (List ℕ)) (changes : List RefChange) → IsOfKind hash id → IsLineOfKind hash line → map (λ (change : RefChange). change.target) changes ≡ targets_along names id
    → AllByRecursion (λ (change : RefChange). (has_log : Bool) × (change.log ≡ act_of (is_due_where mode false has_log change.name) line)) changes → AreChangesOfKind hash changes
targets_of_kind mode hash id line names [] k l t a = tt
targets_of_kind mode hash id line [] (c ∷ changes) k l t a = cc
targets_of_kind mode hash id line (name ∷ []) (c ∷ changes) k l t a =
    let aim : c.target ≡ Set (target.Object id) = cc in
    let rest : map (λ (change : RefChange). change.target) changes ≡ targets_along [] id = cc in
    ((subst (IsTargetChangeOfKind hash) (sym aim) k, subst (IsActOfKind hash) (sym a.0.1) (act_of_kind hash _ line l)), targets_of_kind mode hash id line [] changes k l rest a.1)
targets_of_kind mode hash id line (name ∷ next ∷ names) (c ∷ changes) k l t a =
    let aim : c.target ≡ Keep = cc in
    let rest : map (λ (change : RefChange). change.target) changes ≡ targets_along (next ∷ names) id = cc in
    ((subst (IsTargetChangeOfKind hash) (sym aim) tt, subst (IsActOfKind hash) (sym a.0.1) (act_of_kind hash _ line l)), targets_of_kind mode hash id line (next ∷ names) changes k l rest a.1)

pub kinds_along : (mode : WriteReflog) (hash : HashKind) (names : List (List ℕ)) (id : ObjectId) (line : LogLine) (changes : List RefChange) → IsOfKind hash id → IsLineOfKind hash line → MovesAlong mode names id line changes → AreChangesOfKind hash changes
kinds_along mode hash names id line changes k l m = targets_of_kind mode hash id line names changes k l m.aimed m.logged

-- ---- what they make of the references

moved_by : (mode : WriteReflog) (id : ObjectId) (line : LogLine) (refs : RefState) (way : List (List ℕ)) (end : List ℕ) (changes : List RefChange) (last : RefChange) → changes ≡ map (keeps (is_due mode refs.logs false) line) way → last ≡ change_at (is_due mode refs.logs false end) end (Set (target.Object id)) line
    → refs_after (changes ++ last ∷ []) refs ≡ moved mode (way ++ end ∷ []) end id line refs
moved_by mode id line refs way end changes last e f =
    let due = is_due mode refs.logs false in
    ap (λ xs. refs_after (xs ++ last ∷ []) refs) e ∙ ap (λ x. refs_after (map (keeps due line) way ++ x ∷ []) refs) f
    ∙ (λ i. record { targets = targets_moved due line way end (target.Object id) refs.targets i; logs = all_logged due line way end (Set (target.Object id)) refs.logs i })

-- the same, for whichever name is said to be the last
pub moves : (mode : WriteReflog) (id : ObjectId) (line : LogLine) (told : Option RefState) (way : List (List ℕ)) (end : List ℕ) (changes : List RefChange) (last : RefChange) → AreKept mode line told way changes → IfSome told (λ refs. last ≡ change_at (is_due mode refs.logs false end) end (Set (target.Object id)) line)
    → (names before : List (List ℕ)) (other : List ℕ) → names ≡ way ++ end ∷ [] → names ≡ before ++ other ∷ [] → IfSome told (λ refs. refs_after (changes ++ last ∷ []) refs ≡ moved mode names other id line refs)
moves mode id line None way end changes last k t names before other e f = tt
moves mode id line (Some refs) way end changes last k t names before other e f =
    moved_by mode id line refs way end changes last k.all t ∙ ap (λ xs. moved mode xs end id line refs) (sym e) ∙ ap (λ x. moved mode names x id line refs) (last_same way before end other (sym e ∙ f))

-- ---- faults

among_within : (name : List ℕ) (before : List (List ℕ)) (rest : List (List ℕ)) → is_among name (before ++ name ∷ rest) ≡ true
among_within name [] rest = ap (λ t. t || is_among name rest) (own_name name)
among_within name (x ∷ before) rest = go (bytes_eq x name) (among_within name before rest)
  where
    go : (t : Bool) → is_among name (before ++ name ∷ rest) ≡ true → (t || is_among name (before ++ name ∷ rest)) ≡ true
    go true e = refl
    go false e = e

pub fault_at : (state : StoreState) (mode : WriteReflog) (name : List ℕ) (before rest names : List (List ℕ)) (e : StoreError) → names ≡ before ++ name ∷ rest → OfFault e (IsLogFault state mode false name name) → OfFault e (IsFaultAt state mode names)
fault_at state mode name before rest names NoMemory is h = tt
fault_at state mode name before rest names (Fault fault) is h = (name, ap (is_among name) is ∙ among_within name before rest, h)

-- ---- names and the last of them

pub parted : (names : List (List ℕ)) (end : List ℕ) → 1 ≤ length names → end ≡ get_or names (length names - 1) end → names ≡ take (length names - 1) names ++ end ∷ []
parted names end some is =
    sym (take_all (length names - 1 + 1) names (omega arith)) ∙ take_more names (length names - 1) end (omega arith) ∙ ap (λ x. take (length names - 1) names ++ x ∷ []) (sym is)

-- what faults of `change_at` are, for the names before the last and for the last
pub fault_before : (state : StoreState) (mode : WriteReflog) (names : List (List ℕ)) (at : ℕ) (name : List ℕ) (end : List ℕ) (e : StoreError) → names ≡ take (length names - 1) names ++ end ∷ [] → at < length (take (length names - 1) names) → name ≡ get_or (take (length names - 1) names) at name → OfFault e (IsLogFault state mode false name name) → OfFault e (IsFaultAt state mode names)
fault_before state mode names at name end e parts here is h =
    let way = take (length names - 1) names in
    let split : way ≡ take at way ++ name ∷ drop (at + 1) way = sym (take-append-drop at way) ∙ ap (λ ys. take at way ++ ys) (at_drop_more (λ ys. ys) way at name here ∙ ap (λ x. x ∷ drop (at + 1) way) (sym is)) in
    fault_at state mode name (take at way) (drop (at + 1) way ++ end ∷ []) names e (parts ∙ ap (λ xs. xs ++ end ∷ []) split ∙ append_assoc (take at way) (name ∷ drop (at + 1) way) (end ∷ [])) h
