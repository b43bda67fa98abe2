-- Which logs are written to.
use Rattle.std.proofs.Common.{◌≡◌, ◌∙◌, sym, ap, refl, ℕ, Bool, true, false, cond, ◌||◌, ◌&&◌, List, [], ◌∷◌, ◌++◌, filter, Option, Some, None, IfSome, unwrap_or, Result, Ok, Err, IfOk}
use Rattle.std.specs.Str.{bytes_eq}
use Rattle.std.specs.Cmp.Lexicographic.{nat_list_cmp_total, texts_ties}
use Rattle.std.specs.FinMap.{FinMap, get, contains_key, insert, get-insert}
use Rattle.gx_rules.specs.Name.{name_cmp}
use Rattle.gx_store.specs.declared.log_line.LogLine.{LogLine}
use Rattle.gx_store.specs.State.{StoreState, RefState, IsUnreadable, IfFault}
use Rattle.gx_store.specs.declared.error.StoreError.{StoreError}
use Rattle.gx_store.specs.declared.error.StoreError.TheVariants as store_error
use Rattle.gx_store.specs.declared.error.What.TheVariants as what
use Rattle.gx_refs.specs.Chain.{is_among, AreDistinct}
use Rattle.gx_refs.specs.Log.{is_made, is_due, is_due_where, GoesByLog, IsLogFault, with_line}
use Rattle.gx_refs.specs.Laws.{LogsGain}
use Rattle.gx_refs.specs.declared.log.WriteReflog.{WriteReflog}
use Rattle.gx_refs.specs.declared.log.WriteReflog.TheVariants.{Normal}
use Rattle.gx_refs.proofs.NameLemmas.{same_name, turned, own_name}

-- whether there is a log decides, where nothing else does
pub as_there_is : (mode : WriteReflog) (force : Bool) (name : List ℕ) (r : Result Bool StoreError) → mode ≡ Normal → force ≡ false → is_made Normal name ≡ false → IfOk r (λ due. (has_log : Bool) × (due ≡ is_due_where mode force has_log name))
as_there_is mode force name (Err e) normal off not_made = tt
as_there_is mode force name (Ok has_log) normal off not_made =
    (has_log, sym (ap (λ m. is_due_where m force has_log name) normal ∙ ap (λ t. t || is_made Normal name || has_log) off ∙ ap (λ t. t || has_log) not_made))

pub as_there_is_told : (told : Option RefState) (force : Bool) (name : List ℕ) (r : Result Bool StoreError) → force ≡ false → is_made Normal name ≡ false → IfOk r (λ has_log. IfSome told (λ refs. has_log ≡ contains_key refs.logs name)) → IfOk r (λ due. IfSome told (λ refs. due ≡ is_due Normal refs.logs force name))
as_there_is_told told force name (Err e) off not_made h = tt
as_there_is_told None force name (Ok has_log) off not_made h = tt
as_there_is_told (Some refs) force name (Ok has_log) off not_made h =
    h ∙ sym (ap (λ t. t || is_made Normal name || contains_key refs.logs name) off ∙ ap (λ t. t || contains_key refs.logs name) not_made)

-- where it is neither forced nor made, the log that is there decides
goes_by_log : (force : Bool) (name : List ℕ) → force ≡ false → is_made Normal name ≡ false → GoesByLog Normal force name
goes_by_log force name off not_made = (at false, at true)
  where
    at : (has_log : Bool) → (force || is_made Normal name || has_log) ≡ has_log
    at has_log = ap (λ t. t || is_made Normal name || has_log) off ∙ ap (λ t. t || has_log) not_made

pub fault_of_log : (state : StoreState) (force : Bool) (name : List ℕ) (r : Result Bool StoreError) → force ≡ false → is_made Normal name ≡ false → IfFault r (IsUnreadable state (what.Name name)) → IfFault r (IsLogFault state Normal force name name)
fault_of_log state force name (Ok has_log) off not_made h = tt
fault_of_log state force name (Err store_error.NoMemory) off not_made h = tt
fault_of_log state force name (Err (store_error.Fault fault)) off not_made h = (goes_by_log force name off not_made, h)

abbrev Gained : Bool → LogLine → Option (List LogLine) → Option (List LogLine)
Gained due line log = cond due (Some (unwrap_or log [] ++ line ∷ [])) log

inserted : (logs : FinMap name_cmp (List LogLine)) (at : List ℕ) (lines : List LogLine) (name : List ℕ) → get (insert logs at lines) name ≡ cond (bytes_eq name at) (Some lines) (get logs name)
inserted logs at lines name = get-insert nat_list_cmp_total logs at lines name ∙ ap (λ b. cond b (Some lines) (get logs name)) (sym (texts_ties name at))

-- one name of the list after the other: the head, which may be due or not
head_gains : (here rest due : Bool) (line : LogLine) (log after : Option (List LogLine)) → after ≡ cond here (Some (unwrap_or log [] ++ line ∷ [])) log → (here ≡ true → rest ≡ false) → (here ≡ true → due ≡ true) → Gained (rest && due) line after ≡ Gained ((here || rest) && due) line log
head_gains true rest due line log after is alone d = ap (λ t. Gained (t && due) line after) (alone refl) ∙ is ∙ ap (λ t. Gained t line log) (sym (d refl))
head_gains false rest due line log after is alone d = ap (Gained (rest && due) line) is

head_keeps : (here rest due : Bool) → (here ≡ true → due ≡ false) → (rest && due) ≡ ((here || rest) && due)
head_keeps true true due d = refl
head_keeps true false due d = sym (d refl)
head_keeps false rest due d = refl

gains : (due : List ℕ → Bool) (names : List (List ℕ)) (line : LogLine) (logs : FinMap name_cmp (List LogLine)) (name : List ℕ) → AreDistinct names → get (with_line (filter due names) line logs) name ≡ Gained (is_among name names && due name) line (get logs name)
gains due [] line logs name d = refl
gains due (x ∷ names) line logs name d = go (gains due names line (insert logs x (unwrap_or (get logs x) [] ++ line ∷ [])) name d.1) (gains due names line logs name d.1) (due x) refl
  where
    alone : bytes_eq x name ≡ true → is_among name names ≡ false
    alone e = ap (λ n. is_among n names) (sym (same_name x name e)) ∙ d.0

    lines : List LogLine
    lines = unwrap_or (get logs x) [] ++ line ∷ []

    inserted_here : get (insert logs x lines) name ≡ cond (bytes_eq x name) (Some (unwrap_or (get logs name) [] ++ line ∷ [])) (get logs name)
    inserted_here = inserted logs x lines name ∙ at (bytes_eq x name) refl
      where
        at : (t : Bool) → bytes_eq x name ≡ t → cond (bytes_eq name x) (Some lines) (get logs name) ≡ cond t (Some (unwrap_or (get logs name) [] ++ line ∷ [])) (get logs name)
        at true e = ap (λ t. cond t (Some lines) (get logs name)) (ap (λ n. bytes_eq n x) (sym (same_name x name e)) ∙ own_name x) ∙ ap (λ n. Some (unwrap_or (get logs n) [] ++ line ∷ [])) (same_name x name e)
        at false e = ap (λ t. cond t (Some lines) (get logs name)) (turned x name e)

    go : get (with_line (filter due names) line (insert logs x lines)) name ≡ Gained (is_among name names && due name) line (get (insert logs x lines) name) → get (with_line (filter due names) line logs) name ≡ Gained (is_among name names && due name) line (get logs name)
        → (t : Bool) → due x ≡ t → get (with_line (cond t (x ∷ filter due names) (filter due names)) line logs) name ≡ Gained (is_among name (x ∷ names) && due name) line (get logs name)
    go longer same true e = longer
        ∙ head_gains (bytes_eq x name) (is_among name names) (due name) line (get logs name) (get (insert logs x lines) name) inserted_here alone (λ h. ap due (sym (same_name x name h)) ∙ e)
    go longer same false e = same ∙ ap (λ t. Gained t line (get logs name)) (head_keeps (bytes_eq x name) (is_among name names) (due name) (λ h. ap due (sym (same_name x name h)) ∙ e))

pub logs_gain : LogsGain
logs_gain mode force names line logs name d = gains (is_due mode logs force) names line logs name d
