-- What the definitions of chains and logs say of one another.
use Rattle.std.specs.Prelude.{◌≡◌, ℕ, Bool, ◌&&◌, List, [], ◌∷◌, ◌++◌, Some, unwrap_or, if◌then◌else◌}
use Rattle.std.specs.FinMap.{FinMap, get}
use Rattle.gx_rules.specs.Name.{name_cmp}
use Rattle.gx_store.specs.declared.target.Target.{Target}
use Rattle.gx_store.specs.declared.log_line.LogLine.{LogLine}
use Rattle.gx_refs.specs.Chain.{is_among, AreDistinct, Ends, CyclesAlong, GoesTooDeep}
use Rattle.gx_refs.specs.Log.{is_due, appended}
use Rattle.gx_refs.specs.declared.log.WriteReflog.{WriteReflog}

-- The three fates of a name.
pub data Fate : Type 0 where
  Ending : Fate
  Cycling : Fate
  TooDeep : Fate

-- the name meets the fate along the names
abbrev pub Meets : FinMap name_cmp Target → List ℕ → Fate → List (List ℕ) → Type 0
Meets targets name Ending names = Ends targets name names
Meets targets name Cycling names = CyclesAlong targets name names
Meets targets name TooDeep names = GoesTooDeep targets name names

-- Every name meets a fate: its chain ends, it leads back into itself, or it is too deep.
abbrev pub EachMeets : Type 0
EachMeets =
    (targets : FinMap name_cmp Target) (name : List ℕ)
    → (fate : Fate) × (names : List (List ℕ)) × Meets targets name fate names

-- It meets one alone, along one list of names.
abbrev pub MeetsOne : Type 0
MeetsOne =
    (targets : FinMap name_cmp Target) (name : List ℕ) (one other : Fate) (names others : List (List ℕ))
    → Meets targets name one names → Meets targets name other others → (one ≡ other) × (names ≡ others)

-- A log gets the line where its name is among the names and a line is due for it, and else is as before.
abbrev pub LogsGain : Type 0
LogsGain =
    (mode : WriteReflog) (force : Bool) (names : List (List ℕ)) (line : LogLine)
    (logs : FinMap name_cmp (List LogLine)) (name : List ℕ)
    → AreDistinct names
    → get (appended mode force names line logs) name
    ≡ (if is_among name names && is_due mode logs force name
    then Some (unwrap_or (get logs name) [] ++ line ∷ []) else get logs name)
