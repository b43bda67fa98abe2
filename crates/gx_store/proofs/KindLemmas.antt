-- Changes of one hash kind keep references and logs of that kind.
use Rattle.std.proofs.Common.{◌≡◌, sym, subst, Bool, true, false, cond, List, [], ◌∷◌, ◌++◌, ℕ, Option, Some, None, IfSome, unwrap_or}
use Rattle.std.specs.Ordering.{eq_by_cmp}
use Rattle.std.specs.Cmp.Lexicographic.{nat_list_cmp_total}
use Rattle.std.specs.FinMap.{FinMap, get, empty, get-empty}
use Rattle.std.specs.Prelude.{codes}
use Rattle.gx_store.specs.Breaks.{fresh_refs}
use Rattle.gx_store.specs.declared.target.Target.TheVariants.{Symbolic}
use Rattle.gx_hash.specs.declared.kind.HashKind.{HashKind}
use Rattle.gx_rules.specs.Name.{name_cmp}
use Rattle.gx_store.specs.State.{RefState}
use Rattle.gx_store.specs.Change.{log_after, refs_after}
use Rattle.gx_store.specs.Slots.{with_at, with_change}
use Rattle.gx_store.specs.Change.{target_after}
use Rattle.gx_store.specs.Kinds.{IsTargetOfKind, IsLineOfKind, AreLinesOfKind, IsTargetChangeOfKind, IsActOfKind, AreChangesOfKind, AreRefsOfKind}
use Rattle.gx_store.specs.declared.target.Target.{Target}
use Rattle.gx_store.specs.declared.log_line.LogLine.{LogLine}
use Rattle.gx_store.specs.declared.change.TargetChange.{TargetChange}
use Rattle.gx_store.specs.declared.change.TargetChange.TheVariants as target_change
use Rattle.gx_store.specs.declared.change.LogAct.{LogAct}
use Rattle.gx_store.specs.declared.change.LogAct.TheVariants as log_act
use Rattle.gx_store.specs.declared.change.RefChange.{RefChange}
use Rattle.gx_store.proofs.SlotLemmas.{get_with_at, with_target-at, with_log-at}

either : {X : Type 0} (P : X → Type 0) (b : Bool) (o p : Option X) → IfSome o P → IfSome p P → IfSome (cond b o p) P
either P true o p h k = h
either P false o p h k = k

-- a value at one key
placed : {X : Type 0} (P : X → Type 0) (m : FinMap name_cmp X) (name : List ℕ) (o : Option X) → ((q : List ℕ) → IfSome (get m q) P) → IfSome o P → (q : List ℕ) → IfSome (get (with_at m name o) q) P
placed P m name o all h q = subst (λ x. IfSome x P) (sym (get_with_at nat_list_cmp_total m name o q)) (either P (eq_by_cmp name_cmp q name) o (get m q) h (all q))

target_of : (hash : HashKind) (change : TargetChange) (o : Option Target) → IsTargetChangeOfKind hash change → IfSome o (IsTargetOfKind hash) → IfSome (target_after change o) (IsTargetOfKind hash)
target_of hash target_change.Keep o h k = k
target_of hash (target_change.Set new) o h k = h
target_of hash target_change.Remove o h k = tt

lines_more : (hash : HashKind) (lines : List LogLine) (line : LogLine) → AreLinesOfKind hash lines → IsLineOfKind hash line → AreLinesOfKind hash (lines ++ line ∷ [])
lines_more hash [] line h k = (k, tt)
lines_more hash (x ∷ xs) line h k = (h.0, lines_more hash xs line h.1 k)

lines_or_none : (hash : HashKind) (o : Option (List LogLine)) → IfSome o (AreLinesOfKind hash) → AreLinesOfKind hash (unwrap_or o [])
lines_or_none hash None h = tt
lines_or_none hash (Some lines) h = h

log_of : (hash : HashKind) (act : LogAct) (o : Option (List LogLine)) → IsActOfKind hash act → IfSome o (AreLinesOfKind hash) → IfSome (log_after act o) (AreLinesOfKind hash)
log_of hash log_act.Keep o h k = k
log_of hash (log_act.Append line) o h k = lines_more hash (unwrap_or o []) line (lines_or_none hash o k) h
log_of hash log_act.Remove o h k = tt

one_of : (hash : HashKind) (change : RefChange) (refs : RefState) → IsTargetChangeOfKind hash change.target × IsActOfKind hash change.log → AreRefsOfKind hash refs → AreRefsOfKind hash (with_change change refs)
unfolding AreRefsOfKind
one_of hash change refs h k = (
  subst (λ m. (q : List ℕ) → IfSome (get m q) (IsTargetOfKind hash)) (sym (with_target-at change.name change.target refs.targets))
      (placed (IsTargetOfKind hash) refs.targets change.name (target_after change.target (get refs.targets change.name)) k.0 (target_of hash change.target _ h.0 (k.0 change.name))),
  subst (λ m. (q : List ℕ) → IfSome (get m q) (AreLinesOfKind hash)) (sym (with_log-at change.name change.log refs.logs))
      (placed (AreLinesOfKind hash) refs.logs change.name (log_after change.log (get refs.logs change.name)) k.1 (log_of hash change.log _ h.1 (k.1 change.name))),
)

-- all changes
pub refs_of_kind : (hash : HashKind) (changes : List RefChange) (refs : RefState) → AreChangesOfKind hash changes → AreRefsOfKind hash refs → AreRefsOfKind hash (refs_after changes refs)
refs_of_kind hash [] refs h k = k
refs_of_kind hash (change ∷ changes) refs h k = refs_of_kind hash changes (with_change change refs) h.1 (one_of hash change refs h.0 k)

no_values : {X : Type 0} (P : X → Type 0) (q : List ℕ) → IfSome (get (empty {X = X} {R = name_cmp}) q) P
no_values P q = subst (λ o. IfSome o P) (sym (get-empty name_cmp q)) tt

-- a new store names no id
pub fresh_of_kind : (hash : HashKind) (refs : RefState) → refs ≡ fresh_refs → AreRefsOfKind hash refs
unfolding AreRefsOfKind
fresh_of_kind hash refs e = subst (AreRefsOfKind hash) (sym e) (placed (IsTargetOfKind hash) empty (codes "HEAD") (Some (Symbolic (codes "refs/heads/main"))) (no_values (IsTargetOfKind hash)) tt, no_values (AreLinesOfKind hash))

pub change_of_kind : (hash : HashKind) (changes : List RefChange) (old new : RefState) → new ≡ refs_after changes old → AreChangesOfKind hash changes → AreRefsOfKind hash old → AreRefsOfKind hash new
change_of_kind hash changes old new e h k = subst (AreRefsOfKind hash) (sym e) (refs_of_kind hash changes old h k)

pub same_of_kind : (hash : HashKind) (old new : RefState) → new ≡ old → AreRefsOfKind hash old → AreRefsOfKind hash new
same_of_kind hash old new e k = subst (AreRefsOfKind hash) (sym e) k

pub found_target : (hash : HashKind) (refs : RefState) (name : List ℕ) (found : Option Target) → found ≡ get refs.targets name → AreRefsOfKind hash refs → IfSome found (IsTargetOfKind hash)
unfolding AreRefsOfKind
found_target hash refs name found e k = subst (λ o. IfSome o (IsTargetOfKind hash)) (sym e) (k.0 name)

pub found_log : (hash : HashKind) (refs : RefState) (name : List ℕ) (found : Option (List LogLine)) → found ≡ get refs.logs name → AreRefsOfKind hash refs → IfSome found (AreLinesOfKind hash)
unfolding AreRefsOfKind
found_log hash refs name found e k = subst (λ o. IfSome o (AreLinesOfKind hash)) (sym e) (k.1 name)
