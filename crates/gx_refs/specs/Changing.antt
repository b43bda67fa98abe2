-- For the private functions alone: the change of one name, whichever logs there are.
use Rattle.std.specs.Prelude.{◌≡◌, Bool, true, List, Option, IfSome, Contains}
use Rattle.std.specs.List.{AllByRecursion}
use Rattle.gx_hash.specs.declared.kind.HashKind.{HashKind}
use Rattle.gx_store.specs.Kinds.{IsTargetOfKind, IsTargetChangeOfKind, IsActOfKind}
use Rattle.gx_store.specs.State.{StoreState, RefState, IsUnreadable}
use Rattle.gx_store.specs.declared.change.LogAct.{LogAct}
use Rattle.gx_store.specs.declared.change.RefChange.{RefChange}
use Rattle.gx_store.specs.declared.error.What.TheVariants as what
use Rattle.gx_store.specs.declared.target.Target.{Target}
use Rattle.gx_refs.specs.EditCauses.{CanSign, CannotSign, ChangeCauses, GoesByLogAt}
use Rattle.gx_refs.specs.Edits.{HasLogThere, is_logged, log_change_by}
use Rattle.gx_refs.specs.Log.{is_due_where}
use Rattle.gx_refs.specs.Plan.{Touch}
use Rattle.gx_refs.specs.Prepared.{SetsKind}
use Rattle.gx_refs.specs.declared.edit.Change.{Change}
use Rattle.gx_refs.specs.declared.error.RefError.{RefError}
use Rattle.gx_refs.specs.declared.error.RefError.TheVariants as refusal
use Rattle.gx_refs.specs.declared.log.WriteReflog.{WriteReflog}
use Rattle.gx_refs.specs.declared.plan.Place.{Place}
use Rattle.gx_refs.specs.declared.plan.Plan.{Plan}
use Rattle.gx_refs.specs.declared.terms.Terms.{Terms}

-- whether a line is due at the place
abbrev pub IsDue : Option RefState → WriteReflog → Bool → Place → Bool → Type 0
IsDue told mode force place due =
    (has_log : Bool) × HasLogThere told place has_log × (due ≡ is_due_where mode force has_log place.shown)

-- what a change makes of the log at the place
abbrev pub IsLogChangeBy : Option RefState → Terms → Change → Option Target → Place → LogAct → Type 0
IsLogChangeBy told terms change found place act =
    (has_log : Bool) × HasLogThere told place has_log
    × (act ≡ log_change_by terms change found (is_logged terms change has_log place.shown))

-- what a touch makes of the log at its place
abbrev pub IsLogChange : Option RefState → Terms → Touch → LogAct → Type 0
IsLogChange told terms touch act = IsLogChangeBy told terms touch.plan.edit.change touch.plan.way.found touch.place act

-- a line of the change is written at the place
abbrev pub IsWritten : Option RefState → Terms → Change → Place → Type 0
IsWritten told terms change place =
    (has_log : Bool) × HasLogThere told place has_log × (is_logged terms change has_log place.shown ≡ true)

-- Why what becomes of the log at a place is refused.
abbrev pub LogCauses : Terms → StoreState → Change → Place → RefError → Type 0
LogCauses terms state change place refusal.MissingCommitter =
    IsWritten state.references terms change place × CannotSign terms.committer refusal.MissingCommitter
LogCauses terms state change place (refusal.Unwritable field) =
    IsWritten state.references terms change place × CannotSign terms.committer (refusal.Unwritable field)
LogCauses terms state change place (refusal.Store fault) =
    GoesByLogAt terms change place × IsUnreadable state (what.Name place.name) fault
LogCauses terms state change place refusal.NoMemory = Unit {0}
LogCauses terms state change place error = ⊥

-- where a line is surely written at the place, it can be signed
abbrev pub IsSignedBy : Option RefState → Terms → Change → Place → Type 0
IsSignedBy told terms change place =
    ((has_log : Bool) → HasLogThere told place has_log → is_logged terms change has_log place.shown ≡ true)
    → CanSign terms.committer

-- where the touch surely writes a line, it can be signed
abbrev pub IsSigned : Option RefState → Terms → Touch → Type 0
IsSigned told terms touch = IsSignedBy told terms touch.plan.edit.change touch.place

-- so it is for each of the touches
abbrev pub AreSigned : Option RefState → Terms → List Touch → Type 0
AreSigned told terms all = AllByRecursion (IsSigned told terms) all

-- the ids that the plan finds and sets are of the kind
abbrev pub IsPlanOfKind : HashKind → Plan → Type 0
IsPlanOfKind hash plan = SetsKind hash plan.edit.change × IfSome plan.way.found (IsTargetOfKind hash)

-- so are those of a change
abbrev pub IsChangeOfKind : HashKind → RefChange → Type 0
IsChangeOfKind hash change = IsTargetChangeOfKind hash change.target × IsActOfKind hash change.log

-- Why a change of one of the plans is refused.
abbrev pub SomeChangeCauses : Terms → StoreState → List Plan → RefError → Type 0
SomeChangeCauses terms state plans refusal.NoMemory = Unit {0}
SomeChangeCauses terms state plans error = (plan : Plan) × Contains plans plan × ChangeCauses terms state plan error
