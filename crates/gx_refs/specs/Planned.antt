-- For the private functions alone: what is known of plans, and why they are refused.
use Rattle.std.specs.Prelude.{◌≡◌, ◌⊎◌, ℕ, List, Option, IfSome, Contains}
use Rattle.std.specs.List.{AllByRecursion}
use Rattle.gx_hash.specs.declared.kind.HashKind.{HashKind}
use Rattle.gx_store.specs.Change.{refs_after}
use Rattle.gx_store.specs.Kinds.{IsTargetOfKind}
use Rattle.gx_store.specs.State.{StoreState, RefState}
use Rattle.gx_refs.specs.Answering.{answers}
use Rattle.gx_refs.specs.Changing.{IsPlanOfKind, SomeChangeCauses}
use Rattle.gx_refs.specs.EditCauses.{OfEdit, EditWayCauses, ExpectedCauses, AreAccepted}
use Rattle.gx_refs.specs.Edits.{AreChanges, EditsReferences}
use Rattle.gx_refs.specs.Plan.{KnowsShown, touches}
use Rattle.gx_refs.specs.Prepared.{Ready}
use Rattle.gx_refs.specs.Seen.{HaveDistinctWays, SharedCauses, AllRoomCauses}
use Rattle.gx_refs.specs.declared.edit.RefEdit.{RefEdit}
use Rattle.gx_refs.specs.declared.error.RefError.{RefError}
use Rattle.gx_refs.specs.declared.error.RefError.TheVariants as refusal
use Rattle.gx_refs.specs.declared.plan.Plan.{Plan}
use Rattle.gx_refs.specs.declared.terms.Terms.{Terms}

-- Why one of the edits has no way.
abbrev pub SomeWayCauses : List ℕ → StoreState → List RefEdit → RefError → Type 0
SomeWayCauses space state edits refusal.NoMemory = Unit {0}
SomeWayCauses space state edits error = OfEdit edits (λ edit. EditWayCauses space state edit error)

-- Why one of the plans does not find what it expects.
abbrev pub SomeExpectedCauses : List ℕ → List Plan → RefError → Type 0
SomeExpectedCauses space plans refusal.NoMemory = Unit {0}
SomeExpectedCauses space plans error = (plan : Plan) × Contains plans plan × ExpectedCauses space plan error

-- what the plan finds is of the kind
abbrev pub FindsKind : HashKind → Plan → Type 0
FindsKind hash plan = IfSome plan.way.found (IsTargetOfKind hash)

-- the plans have ways that know what is shown, and ids of one kind
pub record ArePlansSound (state : StoreState) (terms : Terms) (plans : List Plan) : Type 0 where
  pub shown : AllByRecursion (λ (plan : Plan). KnowsShown terms.space plan.way) plans
  pub distinct : HaveDistinctWays plans
  pub kind : AllByRecursion (IsPlanOfKind state.hash) plans

-- the plans may be made, and the changes and the answer are theirs
pub record Readies (terms : Terms) (told : Option RefState) (plans : List Plan) (ready : Ready) : Type 0 where
  pub accepted : AreAccepted terms told plans
  pub changed : AreChanges told terms (touches plans) ready.changes
  pub makes : IfSome told (λ refs. EditsReferences terms plans refs (refs_after ready.changes refs))
  pub answered : ready.answer ≡ answers plans

-- Why the plans are refused.
abbrev pub PlanCauses : Terms → StoreState → List Plan → RefError → Type 0
PlanCauses terms state plans error =
    SomeExpectedCauses terms.space plans error
    ⊎ (SharedCauses plans error
    ⊎ (AllRoomCauses terms.space state plans error
    ⊎ SomeChangeCauses terms state plans error))
