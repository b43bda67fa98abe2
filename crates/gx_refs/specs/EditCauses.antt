-- Why a list of edits is refused, and what is known where it is not.
use Rattle.std.specs.Prelude.{◌≡◌, ◌≢◌, ◌⊎◌, ℕ, Bool, true, false, List, ◌∷◌, ◌++◌, Option, Some, None, IfSome, IsSome, IsTrue, Contains}
use Rattle.std.specs.List.{AllByRecursion}
use Rattle.std.specs.FinMap.{get}
use Rattle.gx_object.specs.declared.signature.Signature.{Signature}
use Rattle.gx_object.specs.declared.encode.Field.{Field}
use Rattle.gx_object.specs.declared.encode.Field.TheVariants.{CommitterName, CommitterEmail, CommitterOffset}
use Rattle.gx_object.specs.Identity.{is_writable_text, is_writable_offset, is_writable_identity}
use Rattle.gx_store.specs.Conflict.{Conflict}
use Rattle.gx_store.specs.State.{StoreState, RefState, IsUnreadable}
use Rattle.gx_store.specs.declared.target.Target.{Target}
use Rattle.gx_store.specs.declared.error.What.{What}
use Rattle.gx_store.specs.declared.error.What.TheVariants as what
use Rattle.gx_refs.specs.Chain.{Cycles, IsTooDeep, IsChainFault}
use Rattle.gx_refs.specs.Edits.{is_logged, HasLogThere, EditsReferences}
use Rattle.gx_refs.specs.Plan.{IsPlan, ArePlans, touched, expected_of, IsMet, makes, Share, ShareNone, HasRoom}
use Rattle.gx_refs.specs.Shown.{stored_name, stored_target, IsShown}
use Rattle.gx_refs.specs.declared.edit.PreviousValue.{PreviousValue}
use Rattle.gx_refs.specs.declared.edit.PreviousValue.TheVariants.{Any, MustExist, MustNotExist, MustExistAndMatch, ExistingMustMatch}
use Rattle.gx_refs.specs.declared.edit.Change.{Change}
use Rattle.gx_refs.specs.declared.edit.RefEdit.{RefEdit}
use Rattle.gx_refs.specs.declared.error.RefError.{RefError}
use Rattle.gx_refs.specs.declared.error.RefError.TheVariants as refusal
use Rattle.gx_refs.specs.declared.plan.Place.{Place}
use Rattle.gx_refs.specs.declared.plan.Plan.{Plan}
use Rattle.gx_refs.specs.declared.terms.Terms.{Terms}

-- one of the edits has the property
pub record OfEdit (edits : List RefEdit) (P : RefEdit → Type 0) : Type 0 where
  pub edit : RefEdit
  pub given : Contains edits edit
  pub holds : P edit

-- one of the edits has a way, and the two have the property
abbrev pub OfPlan : Terms → Option RefState → List RefEdit → (Plan → Type 0) → Type 0
OfPlan terms told edits P = OfEdit edits (λ edit. (plan : Plan) × IsPlan terms.space told edit plan × P plan)

-- two of the edits, an earlier and a later one, have ways, and these have the property
pub record OfTwo (terms : Terms) (told : Option RefState) (edits : List RefEdit)
    (P : Plan → Plan → Type 0) : Type 0 where
  pub before : List RefEdit
  pub one : RefEdit
  pub between : List RefEdit
  pub other : RefEdit
  pub after : List RefEdit
  pub split : edits ≡ before ++ one ∷ between ++ other ∷ after
  pub one_plan : Plan
  pub is_one : IsPlan terms.space told one one_plan
  pub other_plan : Plan
  pub is_other : IsPlan terms.space told other other_plan
  pub holds : P one_plan other_plan

-- ---- one edit by itself

-- Why a name has no way: with `deref` it has no chain, and without it can't be read.
abbrev pub WayCauses : StoreState → Bool → List ℕ → RefError → Type 0
WayCauses state deref name (refusal.Cycle kept) =
    (deref ≡ true) × (kept ≡ name) × IfSome state.references (λ refs. Cycles refs.targets name)
WayCauses state deref name (refusal.DepthLimitExceeded kept) =
    (deref ≡ true) × (kept ≡ name) × IfSome state.references (λ refs. IsTooDeep refs.targets name)
WayCauses state true name (refusal.Store fault) = IsChainFault state name fault
WayCauses state false name (refusal.Store fault) = (fault ≡ what.Name name) × IsTrue (state.unreadable fault)
WayCauses state deref name refusal.NoMemory = Unit {0}
WayCauses state deref name error = ⊥

-- Why an edit is refused a way; the refusal shows its name as it was given.
abbrev pub WayRefusal : List ℕ → Option RefState → RefEdit → RefError → Type 0
WayRefusal space told edit (refusal.Cycle name) =
    (edit.deref ≡ true) × (name ≡ edit.name)
    × IfSome told (λ refs. Cycles refs.targets (stored_name space edit.name))
WayRefusal space told edit (refusal.DepthLimitExceeded name) =
    (edit.deref ≡ true) × (name ≡ edit.name)
    × IfSome told (λ refs. IsTooDeep refs.targets (stored_name space edit.name))
WayRefusal space told edit error = ⊥

-- Why an edit has no way: it is refused one, or a name can't be read.
abbrev pub EditWayCauses : List ℕ → StoreState → RefEdit → RefError → Type 0
EditWayCauses space state edit (refusal.Store fault) =
    WayCauses state edit.deref (stored_name space edit.name) (refusal.Store fault)
EditWayCauses space state edit refusal.NoMemory = Unit {0}
EditWayCauses space state edit error = WayRefusal space state.references edit error

-- a reference is expected to be there
abbrev pub AsksPresence : PreviousValue → Type 0
AsksPresence MustExist = Unit {0}
AsksPresence (MustExistAndMatch wanted) = Unit {0}
AsksPresence Any = ⊥
AsksPresence MustNotExist = ⊥
AsksPresence (ExistingMustMatch wanted) = ⊥

-- this target is expected
abbrev pub AsksFor : PreviousValue → Target → Type 0
AsksFor (MustExistAndMatch wanted) asked = asked ≡ wanted
AsksFor (ExistingMustMatch wanted) asked = asked ≡ wanted
AsksFor Any asked = ⊥
AsksFor MustExist asked = ⊥
AsksFor MustNotExist asked = ⊥

-- the end has another target than the expected one
pub record IsOutOfDate (space : List ℕ) (plan : Plan) (expected actual : Target) : Type 0 where
  pub asked : AsksFor (expected_of plan.edit.change) expected
  pub found : Target
  pub there : plan.way.found ≡ Some found
  pub differs : found ≢ stored_target space expected
  pub shown : plan.way.shown ≡ Some actual

-- Why an edit is refused for what it finds at the end of its way. The refusal shows the end's name.
-- (git-update-ref(1), "<old-oid>")
abbrev pub ExpectedCauses : List ℕ → Plan → RefError → Type 0
ExpectedCauses space plan (refusal.MustExist name) =
    AsksPresence (expected_of plan.edit.change) × (plan.way.found ≡ None) × (name ≡ plan.way.end.shown)
ExpectedCauses space plan (refusal.MustNotExist name actual) =
    (expected_of plan.edit.change ≡ MustNotExist) × (plan.way.shown ≡ Some actual) × (name ≡ plan.way.end.shown)
ExpectedCauses space plan (refusal.ReferenceOutOfDate name expected actual) =
    IsOutOfDate space plan expected actual × (name ≡ plan.way.end.shown)
ExpectedCauses space plan refusal.NoMemory = Unit {0}
ExpectedCauses space plan error = ⊥

-- a line is written for a touched name; where logs are not told there may be a log or not
pub record HasLine (terms : Terms) (told : Option RefState) (plan : Plan) : Type 0 where
  pub place : Place
  pub touches : Contains (touched plan) place
  pub has_log : Bool
  pub there : HasLogThere told place has_log
  pub due : is_logged terms plan.edit.change has_log place.shown ≡ true

-- a line is written for a touched name, whichever logs there may be
pub record HasSureLine (terms : Terms) (told : Option RefState) (plan : Plan) : Type 0 where
  pub place : Place
  pub touches : Contains (touched plan) place
  pub due : (has_log : Bool) → HasLogThere told place has_log
      → is_logged terms plan.edit.change has_log place.shown ≡ true

-- whether the change writes a line at the place goes by the log that is there: it does with one and not without
abbrev pub GoesByLogAt : Terms → Change → Place → Type 0
GoesByLogAt terms change place =
    (is_logged terms change false place.shown ≡ false) × (is_logged terms change true place.shown ≡ true)

-- the part of the committer can't be written (Git, git-commit, "Commit Information")
abbrev pub BreaksAt : Option Signature → Field → Type 0
BreaksAt (Some who) CommitterName = is_writable_text who.name ≡ false
BreaksAt (Some who) CommitterEmail = is_writable_text who.email ≡ false
BreaksAt (Some who) CommitterOffset = is_writable_offset who.time.offset ≡ false
BreaksAt committer field = ⊥

-- Why a line can't be signed.
abbrev pub CannotSign : Option Signature → RefError → Type 0
CannotSign committer refusal.MissingCommitter = committer ≡ None
CannotSign committer (refusal.Unwritable field) = BreaksAt committer field
CannotSign committer error = ⊥

-- Why an edit is refused for what it would write: a line can't be signed.
abbrev pub LineRefusal : Terms → Option RefState → Plan → RefError → Type 0
LineRefusal terms told plan refusal.MissingCommitter =
    HasLine terms told plan × CannotSign terms.committer refusal.MissingCommitter
LineRefusal terms told plan (refusal.Unwritable field) =
    HasLine terms told plan × CannotSign terms.committer (refusal.Unwritable field)
LineRefusal terms told plan error = ⊥

-- The fault names a touched name, whose log decides whether it gets a line, and can't be read.
pub record IsLineFault (terms : Terms) (state : StoreState) (plan : Plan) (fault : What) : Type 0 where
  pub place : Place
  pub touches : Contains (touched plan) place
  pub decides : GoesByLogAt terms plan.edit.change place
  pub unreadable : IsUnreadable state (what.Name place.name) fault

-- Why the changes of an edit are not known: a line can't be signed, or whether one is due can't be read.
abbrev pub ChangeCauses : Terms → StoreState → Plan → RefError → Type 0
ChangeCauses terms state plan (refusal.Store fault) = IsLineFault terms state plan fault
ChangeCauses terms state plan refusal.NoMemory = Unit {0}
ChangeCauses terms state plan error = LineRefusal terms state.references plan error

-- ---- edits beside one another

-- the names of two edits, of which one goes through or ends at a name that the other touches, as it is shown
abbrev pub MeetAt : List ℕ → List ℕ → Plan → Plan → Type 0
MeetAt space name one other = (shared : List ℕ) × Share one other shared × IsShown space shared name

-- a reference of that name is stored, or an edit makes it
abbrev pub IsInTheWay : Terms → Option RefState → List RefEdit → List ℕ → Type 0
IsInTheWay terms told edits other =
    IfSome told (λ refs. IsSome (get refs.targets other))
    ⊎ OfPlan terms told edits (λ plan. (makes plan ≡ true) × (other ≡ plan.way.end.name))

-- the edit makes a name that conflicts with another, and both are shown
pub record MakesConflict (terms : Terms) (told : Option RefState) (edits : List RefEdit) (name with : List ℕ)
    (plan : Plan) : Type 0 where
  pub made : makes plan ≡ true
  pub shown : name ≡ plan.way.end.shown
  pub other : List ℕ
  pub other_shown : IsShown terms.space other with
  pub conflict : Conflict plan.way.end.name other
  pub stands : IsInTheWay terms told edits other

-- ---- the whole list

-- Why a list of edits is refused, by the edits and the references alone. A fault of the store and lack of memory are
-- no refusals.
abbrev pub EditRefusal : Terms → Option RefState → List RefEdit → RefError → Type 0
EditRefusal terms told edits (refusal.Cycle name) =
    OfEdit edits (λ edit. WayRefusal terms.space told edit (refusal.Cycle name))
EditRefusal terms told edits (refusal.DepthLimitExceeded name) =
    OfEdit edits (λ edit. WayRefusal terms.space told edit (refusal.DepthLimitExceeded name))
EditRefusal terms told edits (refusal.MustExist name) =
    OfPlan terms told edits (λ plan. ExpectedCauses terms.space plan (refusal.MustExist name))
EditRefusal terms told edits (refusal.MustNotExist name actual) =
    OfPlan terms told edits (λ plan. ExpectedCauses terms.space plan (refusal.MustNotExist name actual))
EditRefusal terms told edits (refusal.ReferenceOutOfDate name expected actual) =
    OfPlan terms told edits
    (λ plan. ExpectedCauses terms.space plan (refusal.ReferenceOutOfDate name expected actual))
EditRefusal terms told edits (refusal.NameConflict name with) =
    OfPlan terms told edits (MakesConflict terms told edits name with)
EditRefusal terms told edits (refusal.DuplicateEdit name) = OfTwo terms told edits (MeetAt terms.space name)
EditRefusal terms told edits refusal.MissingCommitter =
    OfPlan terms told edits (λ plan. LineRefusal terms told plan refusal.MissingCommitter)
EditRefusal terms told edits (refusal.Unwritable field) =
    OfPlan terms told edits (λ plan. LineRefusal terms told plan (refusal.Unwritable field))
EditRefusal terms told edits (refusal.NameValidation error) = ⊥
EditRefusal terms told edits (refusal.Store fault) = ⊥
EditRefusal terms told edits refusal.NoMemory = ⊥

-- a fault names what can't be read: a name on an edit's way, a touched name whose log decides, or the listing where a
-- name is made
abbrev pub IsEditFault : Terms → StoreState → List RefEdit → What → Type 0
IsEditFault terms state edits what.Listing =
    IsTrue (state.unreadable what.Listing) × OfPlan terms state.references edits (λ plan. makes plan ≡ true)
IsEditFault terms state edits fault =
    OfEdit edits (λ edit. EditWayCauses terms.space state edit (refusal.Store fault))
    ⊎ OfPlan terms state.references edits (λ plan. ChangeCauses terms state plan (refusal.Store fault))

-- Why a list of edits is not prepared. Lack of memory needs no cause.
abbrev pub EditCauses : Terms → StoreState → List RefEdit → RefError → Type 0
EditCauses terms state edits (refusal.Store fault) = IsEditFault terms state edits fault
EditCauses terms state edits refusal.NoMemory = Unit {0}
EditCauses terms state edits error = EditRefusal terms state.references edits error

-- ---- where none of these holds

-- what each edit expects is there
abbrev pub AreMet : List ℕ → List Plan → Type 0
AreMet space plans = AllByRecursion (λ (plan : Plan). IsMet space (expected_of plan.edit.change) plan.way.found) plans

-- someone can sign a line
abbrev pub CanSign : Option Signature → Type 0
CanSign None = ⊥
CanSign (Some who) = is_writable_identity who ≡ true

-- The edits may be made: each finds what it expects, no two share a name, what they make has room, and the lines that
-- they surely write can be signed.
pub record AreAccepted (terms : Terms) (told : Option RefState) (plans : List Plan) : Type 0 where
  pub met : AreMet terms.space plans
  pub apart : ShareNone plans
  pub room : AllByRecursion (λ plan. makes plan ≡ true → HasRoom told plans plan) plans
  pub signed : AllByRecursion (λ plan. HasSureLine terms told plan → CanSign terms.committer) plans

-- Edits may be made: each has a way, and with their ways they are accepted.
pub record MayBeMade (terms : Terms) (told : Option RefState) (edits : List RefEdit) : Type 0 where
  pub plans : List Plan
  pub ways : ArePlans terms.space told edits plans
  pub accepted : AreAccepted terms told plans

-- Edits are made: they may be, and the new references are what they make of the old ones.
pub record AreMade (terms : Terms) (edits : List RefEdit) (old new : RefState) : Type 0 where
  pub plans : List Plan
  pub ways : ArePlans terms.space (Some old) edits plans
  pub accepted : AreAccepted terms (Some old) plans
  pub makes : EditsReferences terms plans old new
