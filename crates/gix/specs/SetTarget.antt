-- References that are set to another id.
use Rattle.std.specs.Prelude.{◌≡◌, ℕ, List, [], ◌∷◌, Option, Some, None, IsSome}
use Rattle.gx_hash.specs.declared.oid.ObjectId.{ObjectId}
use Rattle.gx_store.specs.State.{RefState, StoreState, Becomes}
use Rattle.gx_store.specs.declared.error.StoreError.{StoreError}
use Rattle.gx_store.specs.declared.error.StoreError.TheVariants as failure
use Rattle.gx_refs.specs.EditCauses.{EditRefusal}
use Rattle.gx_refs.specs.declared.edit.PreviousValue.TheVariants.{MustExistAndMatch}
use Rattle.gx_refs.specs.declared.edit.RefEdit.{RefEdit}
use Rattle.gx_refs.specs.declared.error.RefError.{RefError}
use Rattle.gx_refs.specs.declared.error.RefError.TheVariants as ref_error
use Rattle.gx_refs.specs.declared.reference.Reference.{Reference}
use Rattle.gix.specs.declared.reference.errors.SetTargetError.{SetTargetError}
use Rattle.gix.specs.declared.reference.errors.SetTargetError.TheVariants.{SymbolicReference, ReferenceEdit, Store, NoMemory}
use Rattle.gix.specs.declared.settings.Settings.{Settings}
use Rattle.gix.specs.Attached.{id_of}
use Rattle.gix.specs.EditReferences.{AcceptsEdits, LeavesEdits, MakeCauses, MakesEdits, terms_in}
use Rattle.gix.specs.Meaning.{Meaning}
use Rattle.gix.specs.OneEdit.{update_of}

-- The reference is let name the object, if it still has the target that is held. (git-update-ref(1), "<old-oid>")
abbrev pub moves_of : Reference → ObjectId → List ℕ → List RefEdit
moves_of reference id message =
    update_of reference.name id (MustExistAndMatch reference.target) message ∷ []

-- how a refusal of that edit is told
abbrev pub of_edit : RefError → SetTargetError
of_edit (ref_error.Store fault) = Store fault
of_edit ref_error.NoMemory = NoMemory
of_edit refusal = ReferenceEdit refusal

-- what of an error is the store's
abbrev pub set_target_part : SetTargetError → Option StoreError
set_target_part (SymbolicReference name) = None
set_target_part (ReferenceEdit refusal) = None
set_target_part (Store fault) = Some (failure.Fault fault)
set_target_part NoMemory = Some failure.NoMemory

-- Why it is refused: the reference is symbolic; or it is not, and the edit is refused.
abbrev pub SetTargetRefusal : Settings → Reference → ObjectId → List ℕ → Option RefState → SetTargetError → Type 0
SetTargetRefusal settings reference id message told (SymbolicReference name) =
    (name ≡ reference.name) × (id_of reference.target ≡ None)
SetTargetRefusal settings reference id message told (ReferenceEdit refusal) =
    IsSome (id_of reference.target)
    × EditRefusal (terms_in settings None) told (moves_of reference id message) refusal
SetTargetRefusal settings reference id message told e = ⊥

-- Why an error came. Lack of memory needs no cause.
abbrev pub SetTargetCauses : Settings → Reference → ObjectId → List ℕ → StoreState → StoreState → SetTargetError
    → Type 0
SetTargetCauses settings reference id message old new (Store fault) =
    IsSome (id_of reference.target)
    × MakeCauses (terms_in settings None) (moves_of reference id message) old new (ref_error.Store fault)
SetTargetCauses settings reference id message old new NoMemory = Unit {0}
SetTargetCauses settings reference id message old new e =
    SetTargetRefusal settings reference id message old.references e

-- What an error leaves of the store.
abbrev pub SetTargetLeaves : Settings → Reference → ObjectId → List ℕ → StoreState → StoreState → SetTargetError
    → Type 0
SetTargetLeaves settings reference id message old new (Store fault) =
    LeavesEdits (terms_in settings None) (moves_of reference id message) old new (ref_error.Store fault)
SetTargetLeaves settings reference id message old new NoMemory = Becomes old new
SetTargetLeaves settings reference id message old new e = new ≡ old

-- What it means to set a reference to another id.
abbrev pub set_target_meaning : Reference → ObjectId → List ℕ → Meaning (Unit {0}) SetTargetError
set_target_meaning reference id message = record {
  fails = set_target_part;
  settles = λ answer settings. settings;
  makes = λ settings old answer new. IsSome (id_of reference.target) × ((made : List RefEdit)
      × MakesEdits (terms_in settings None) (moves_of reference id message) old made new);
  leaves = λ settings old new e. SetTargetLeaves settings reference id message old new e;
  causes = λ settings old new e. SetTargetCauses settings reference id message old new e;
  accepts = λ settings old answer new. IsSome (id_of reference.target)
      × AcceptsEdits (terms_in settings None) (moves_of reference id message) old new;
  refuses = λ settings old e new. (new ≡ old)
      × SetTargetRefusal settings reference id message (Some old.references) e;
}
