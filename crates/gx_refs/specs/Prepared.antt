-- What is known of edits that were prepared.
use Rattle.std.specs.Prelude.{List, Option, IfSome}
use Rattle.std.specs.List.{AllByRecursion}
use Rattle.gx_hash.specs.declared.kind.HashKind.{HashKind}
use Rattle.gx_store.specs.Change.{refs_after, AfterFault}
use Rattle.gx_store.specs.Kinds.{IsTargetOfKind}
use Rattle.gx_store.specs.State.{StoreState, RefState, Becomes, HasCause}
use Rattle.gx_store.specs.declared.change.RefChange.{RefChange}
use Rattle.gx_refs.specs.Answer.{AreAnswers}
use Rattle.gx_refs.specs.EditCauses.{AreAccepted}
use Rattle.gx_refs.specs.Edits.{AreChanges, EditsReferences}
use Rattle.gx_refs.specs.Plan.{ArePlans, touches}
use Rattle.gx_refs.specs.declared.edit.Change.{Change}
use Rattle.gx_refs.specs.declared.edit.Change.TheVariants.{Update, Delete}
use Rattle.gx_refs.specs.declared.edit.RefEdit.{RefEdit}
use Rattle.gx_refs.specs.declared.terms.Terms.{Terms}
use Rattle.gx_refs.specs.declared.error.RefError.{RefError}
use Rattle.gx_refs.specs.declared.error.RefError.TheVariants.{Store, NoMemory}
use Rattle.gx_refs.specs.declared.plan.Plan.{Plan}

-- The changes that are to be made, and the answer.
pub record Ready : Type 0 where
  pub changes : List RefChange
  pub answer : List RefEdit

-- Each edit has a way, all may be made, the changes make of the references what the edits make, and the answer
-- tells them.
pub record Prepares (terms : Terms) (told : Option RefState) (edits : List RefEdit) (ready : Ready) : Type 0 where
  pub plans : List Plan
  pub ways : ArePlans terms.space told edits plans
  pub accepted : AreAccepted terms told plans
  pub changed : AreChanges told terms (touches plans) ready.changes
  pub makes : IfSome told (λ refs. EditsReferences terms plans refs (refs_after ready.changes refs))
  pub answered : AreAnswers terms.space told plans ready.answer

-- the id that an edit sets is of the kind
abbrev pub SetsKind : HashKind → Change → Type 0
SetsKind hash (Update log expected new) = IsTargetOfKind hash new
SetsKind hash (Delete expected log) = Unit {0}

-- The ids that edits set are of the kind.
abbrev pub AreEditsOfKind : HashKind → List RefEdit → Type 0
AreEditsOfKind hash edits = AllByRecursion (λ (edit : RefEdit). SetsKind hash edit.change) edits

-- Why changes are not made. Without memory none is made, and after a fault each is made or not.
abbrev pub CommitCauses : List RefChange → StoreState → StoreState → RefError → Type 0
CommitCauses changes old new NoMemory = Becomes old new
CommitCauses changes old new (Store fault) = HasCause old new fault × AfterFault changes old new
CommitCauses changes old new error = ⊥
