-- Ids of one hash kind, in targets, log lines and changes of them.
-- A repository has one object format, and every id in it is of that. (git-init, "--object-format")
use Rattle.std.specs.Prelude.{◌≡◌, ℕ, List, [], ◌∷◌, Option, Some, None, IfSome}
use Rattle.std.specs.Coded.{Coded-set, ×_prop, Unit-prop}
use Rattle.std.specs.List.{AllByRecursion}
use Rattle.std.specs.FinMap.{get}
use Rattle.gx_hash.specs.HashKind.{IsOfKind}
use Rattle.gx_hash.specs.declared.kind.HashKind.{HashKind}
use Rattle.gx_hash.specs.contracts.kind.HashKind as hash_kind
use Rattle.gx_store.specs.State.{RefState}
use Rattle.gx_store.specs.declared.target.Target.{Target}
use Rattle.gx_store.specs.declared.target.Target.TheVariants as target
use Rattle.gx_store.specs.declared.log_line.LogLine.{LogLine}
use Rattle.gx_store.specs.declared.change.TargetChange.{TargetChange}
use Rattle.gx_store.specs.declared.change.TargetChange.TheVariants as target_change
use Rattle.gx_store.specs.declared.change.LogAct.{LogAct}
use Rattle.gx_store.specs.declared.change.LogAct.TheVariants as log_act
use Rattle.gx_store.specs.declared.change.RefChange.{RefChange}

-- A target that is an object has an id of the kind.
abbrev pub IsTargetOfKind : HashKind → Target → Type 0
IsTargetOfKind hash (target.Object id) = IsOfKind hash id
IsTargetOfKind hash (target.Symbolic name) = Unit {0}

-- Both ids of a log line are of the kind.
abbrev pub IsLineOfKind : HashKind → LogLine → Type 0
IsLineOfKind hash line = IsOfKind hash line.previous × IsOfKind hash line.new

-- So are those of each line of a log.
abbrev pub AreLinesOfKind : HashKind → List LogLine → Type 0
AreLinesOfKind hash lines = AllByRecursion (IsLineOfKind hash) lines

-- A new target is of the kind.
abbrev pub IsTargetChangeOfKind : HashKind → TargetChange → Type 0
IsTargetChangeOfKind hash target_change.Keep = Unit {0}
IsTargetChangeOfKind hash (target_change.Set new) = IsTargetOfKind hash new
IsTargetChangeOfKind hash target_change.Remove = Unit {0}

-- So is a new line.
abbrev pub IsActOfKind : HashKind → LogAct → Type 0
IsActOfKind hash log_act.Keep = Unit {0}
IsActOfKind hash (log_act.Append line) = IsLineOfKind hash line
IsActOfKind hash log_act.Remove = Unit {0}

-- Each id in the changes is of the kind.
abbrev pub AreChangesOfKind : HashKind → List RefChange → Type 0
AreChangesOfKind hash changes =
    AllByRecursion (λ change. IsTargetChangeOfKind hash change.target × IsActOfKind hash change.log) changes

-- Each id in targets and logs is of the kind.
unfoldable pub AreRefsOfKind : HashKind → RefState → Type 0
AreRefsOfKind hash refs =
    ((name : List ℕ) → IfSome (get refs.targets name) (IsTargetOfKind hash))
    × ((name : List ℕ) → IfSome (get refs.logs name) (AreLinesOfKind hash))

-- ---- these are facts: no two proofs of one differ

HashKind-set : (a b : HashKind) → IsProp (a ≡ b)
HashKind-set = Coded-set (hash_kind.the_row).coded

IfSome-prop : {T : Type 0} (o : Option T) (P : T → Type 0) → ((x : T) → IsProp (P x)) → IsProp (IfSome o P)
IfSome-prop None P h = Unit-prop
IfSome-prop (Some x) P h = h x

IsTargetOfKind-prop : (hash : HashKind) (x : Target) → IsProp (IsTargetOfKind hash x)
IsTargetOfKind-prop hash (target.Object id) = HashKind-set _ _
IsTargetOfKind-prop hash (target.Symbolic name) = Unit-prop

AreLinesOfKind-prop : (hash : HashKind) (lines : List LogLine) → IsProp (AreLinesOfKind hash lines)
AreLinesOfKind-prop hash [] = Unit-prop
AreLinesOfKind-prop hash (line ∷ lines) =
    ×_prop (×_prop (HashKind-set _ _) (HashKind-set _ _)) (AreLinesOfKind-prop hash lines)

pub AreRefsOfKind-prop : (hash : HashKind) (refs : RefState) → IsProp (AreRefsOfKind hash refs)
unfolding AreRefsOfKind
AreRefsOfKind-prop hash refs = ×_prop
    (λ p q i name.
    IfSome-prop (get refs.targets name) (IsTargetOfKind hash) (IsTargetOfKind-prop hash) (p name) (q name) i)
    (λ p q i name.
    IfSome-prop (get refs.logs name) (AreLinesOfKind hash) (AreLinesOfKind-prop hash) (p name) (q name) i)
