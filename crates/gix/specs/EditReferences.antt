-- Edits of references, a list at a time.
use Rattle.std.specs.Prelude.{◌≡◌, List, Option, Some, None}
use Rattle.gx_object.specs.declared.signature.Signature.{Signature}
use Rattle.gx_store.specs.Change.{applied, AfterFault}
use Rattle.gx_store.specs.State.{StoreState, Becomes, HasCause}
use Rattle.gx_store.specs.declared.error.StoreError.{StoreError}
use Rattle.gx_store.specs.declared.error.StoreError.TheVariants as failure
use Rattle.gx_store.specs.declared.error.What.{What}
use Rattle.gx_store.specs.declared.error.What.TheVariants as what
use Rattle.gx_refs.specs.EditCauses.{EditRefusal, IsEditFault, AreMade}
use Rattle.gx_refs.specs.Prepared.{Prepares, Ready}
use Rattle.gx_refs.specs.declared.edit.RefEdit.{RefEdit}
use Rattle.gx_refs.specs.declared.error.RefError.{RefError}
use Rattle.gx_refs.specs.declared.error.RefError.TheVariants.{Store, NoMemory}
use Rattle.gx_refs.specs.declared.terms.Terms.{Terms}
use Rattle.gix.specs.declared.settings.Settings.{Settings}
use Rattle.gix.specs.Meaning.{Meaning}
use Rattle.gix.specs.Space.{space_of}
use Rattle.gix.specs.View.{State}

-- what edits are made under: the namespace and the logs of the settings, and who signs
abbrev pub terms_in : Settings → Option Signature → Terms
terms_in settings committer =
    record { space = space_of settings; mode = settings.log_mode; committer = committer }

-- what of an error is the store's
abbrev pub edit_part : RefError → Option StoreError
edit_part (Store fault) = Some (failure.Fault fault)
edit_part NoMemory = Some failure.NoMemory
edit_part e = None

-- The edits were prepared, and then made by one change of the store. The answer tells them.
pub record MakesEdits (terms : Terms) (edits : List RefEdit) (old : StoreState) (answer : List RefEdit)
    (new : StoreState) : Type 0 where
  pub ready : Ready
  pub prepared : Prepares terms old.references edits ready
  pub answered : answer ≡ ready.answer
  pub becomes : Becomes (applied ready.changes old) new

-- The edits were prepared, and the change of the store failed on the way.
pub record AreCutShort (terms : Terms) (edits : List RefEdit) (old new : StoreState) : Type 0 where
  pub ready : Ready
  pub prepared : Prepares terms old.references edits ready
  pub after : AfterFault ready.changes old new

-- What a fault leaves: one of writing each changed name old or new, and one of a read all as it was.
abbrev pub LeavesEditFault : Terms → List RefEdit → StoreState → StoreState → What → Type 0
LeavesEditFault terms edits old new what.Write = AreCutShort terms edits old new
LeavesEditFault terms edits old new fault = new ≡ old

-- What an error leaves: a refusal all as it was; lack of memory no change; and a fault what it leaves.
abbrev pub LeavesEdits : Terms → List RefEdit → StoreState → StoreState → RefError → Type 0
LeavesEdits terms edits old new (Store fault) = LeavesEditFault terms edits old new fault
LeavesEdits terms edits old new NoMemory = Becomes old new
LeavesEdits terms edits old new e = new ≡ old

-- Why there is a fault: one of writing is counted, and any other is of what the edits read.
abbrev pub EditFaultCauses : Terms → List RefEdit → StoreState → StoreState → What → Type 0
EditFaultCauses terms edits old new what.Write = HasCause old new what.Write
EditFaultCauses terms edits old new fault = IsEditFault terms old edits fault

-- Why the edits are not made. Lack of memory needs no cause.
abbrev pub MakeCauses : Terms → List RefEdit → StoreState → StoreState → RefError → Type 0
MakeCauses terms edits old new (Store fault) = EditFaultCauses terms edits old new fault
MakeCauses terms edits old new NoMemory = Unit {0}
MakeCauses terms edits old new e = EditRefusal terms old.references edits e

-- Edits are accepted: the references become what the edits make of them, and nothing else is changed.
-- (git-update-ref(1), "--stdin")
pub record AcceptsEdits (terms : Terms) (edits : List RefEdit) (old new : State) : Type 0 where
  pub made : AreMade terms edits old.references new.references
  pub same : new ≡ record old { references = new.references }

-- What a list of edits means, which this committer signs.
abbrev pub edit_references_meaning : Option Signature → List RefEdit → Meaning (List RefEdit) RefError
edit_references_meaning committer edits = record {
  fails = edit_part;
  settles = λ answer settings. settings;
  makes = λ settings old answer new. MakesEdits (terms_in settings committer) edits old answer new;
  leaves = λ settings old new e. LeavesEdits (terms_in settings committer) edits old new e;
  causes = λ settings old new e. MakeCauses (terms_in settings committer) edits old new e;
  accepts = λ settings old answer new. AcceptsEdits (terms_in settings committer) edits old new;
  refuses = λ settings old e new. (new ≡ old)
      × EditRefusal (terms_in settings committer) (Some old.references) edits e;
}
