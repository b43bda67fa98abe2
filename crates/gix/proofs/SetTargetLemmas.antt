-- What it means to set a reference to another id.
use Rattle.std.proofs.Common.{◌≡◌, refl, sym, subst, ℕ, List, Option, Some, None, Err, IsSome}
use Rattle.gx_hash.specs.declared.oid.ObjectId.{ObjectId}
use Rattle.gx_store.specs.State.{RefState, StoreState}
use Rattle.gx_store.specs.declared.target.Target.TheVariants as target
use Rattle.gx_refs.specs.EditCauses.{EditRefusal}
use Rattle.gx_refs.specs.declared.edit.PreviousValue.TheVariants.{MustExistAndMatch}
use Rattle.gx_refs.specs.declared.error.RefError.{RefError}
use Rattle.gx_refs.specs.declared.error.RefError.TheVariants as ref_error
use Rattle.gx_refs.specs.declared.reference.Reference.{Reference}
use Rattle.gix.specs.declared.settings.Settings.{Settings}
use Rattle.gix.specs.Attached.{id_of}
use Rattle.gix.specs.EditReferences.{LeavesEdits, MakeCauses, edit_part, terms_in}
use Rattle.gix.specs.Held.{Held}
use Rattle.gix.specs.Meaning.{Means}
use Rattle.gix.specs.OneEdit.{reference_meaning}
use Rattle.gix.specs.SetTarget.{SetTargetCauses, SetTargetLeaves, SetTargetRefusal, moves_of, of_edit, set_target_meaning, set_target_part}
use Rattle.gix.proofs.OneEditLemmas.{some_none, told_map}

-- a target that is an id
pub is_id : (reference : Reference) (current : ObjectId) → reference.target ≡ target.Object current → IsSome (id_of reference.target)
is_id reference current is = subst (λ t. IsSome (id_of t)) (sym is) refl

leaves_so : (settings : Settings) (reference : Reference) (id : ObjectId) (message : List ℕ) (old new : StoreState) (e : RefError) → LeavesEdits (terms_in settings None) (moves_of reference id message) old new e → SetTargetLeaves settings reference id message old new (of_edit e)
leaves_so settings reference id message old new (ref_error.Store fault) h = h
leaves_so settings reference id message old new ref_error.NoMemory h = h
leaves_so settings reference id message old new e h = h

caused_so : (settings : Settings) (reference : Reference) (id : ObjectId) (message : List ℕ) (old new : StoreState) (e : RefError) → IsSome (id_of reference.target) → MakeCauses (terms_in settings None) (moves_of reference id message) old new e → SetTargetCauses settings reference id message old new (of_edit e)
caused_so settings reference id message old new (ref_error.Store fault) some h = (some, h)
caused_so settings reference id message old new ref_error.NoMemory some h = tt
caused_so settings reference id message old new e some h = (some, h)

is_refusal : (e : RefError) → set_target_part (of_edit e) ≡ None → edit_part e ≡ None
is_refusal (ref_error.Store fault) none = some_none _ none
is_refusal ref_error.NoMemory none = some_none _ none
is_refusal e none = refl

refused_so : (settings : Settings) (reference : Reference) (id : ObjectId) (message : List ℕ) (told : Option RefState) (e : RefError) → IsSome (id_of reference.target) → EditRefusal (terms_in settings None) told (moves_of reference id message) e → SetTargetRefusal settings reference id message told (of_edit e)
refused_so settings reference id message told (ref_error.Store fault) some h = h
refused_so settings reference id message told ref_error.NoMemory some h = h
refused_so settings reference id message told e some h = (some, h)

-- the edit was refused, or failed
pub set_err : (reference : Reference) (id : ObjectId) (message : List ℕ) (old new : Held) (e : RefError) → IsSome (id_of reference.target) → Means (reference_meaning reference.name id (MustExistAndMatch reference.target) message) old (Err e) new → Means (set_target_meaning reference id message) old (Err (of_edit e)) new
set_err reference id message old new e some m = record {
  ok = tt;
  settles = tt;
  leaves = leaves_so old.settings reference id message old.store new.store e m.leaves;
  causes = caused_so old.settings reference id message old.store new.store e some m.causes;
  settings = m.settings;
  accepts = tt;
  refuses = λ none. told_map _ _ (λ before after h. (h.0, refused_so old.settings reference id message (Some before.references) e some h.1)) old.store new.store (m.refuses (is_refusal e none));
}
