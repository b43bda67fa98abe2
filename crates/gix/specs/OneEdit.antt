-- Edits of one reference.
use Rattle.std.specs.Prelude.{◌≡◌, ℕ, false, List, [], ◌∷◌, None}
use Rattle.gx_hash.specs.declared.oid.ObjectId.{ObjectId}
use Rattle.gx_store.specs.declared.target.Target.TheVariants as target
use Rattle.gx_refs.specs.declared.edit.Change.TheVariants.{Update, Delete}
use Rattle.gx_refs.specs.declared.edit.LogChange.{LogChange}
use Rattle.gx_refs.specs.declared.edit.PreviousValue.{PreviousValue}
use Rattle.gx_refs.specs.declared.edit.PreviousValue.TheVariants.{MustExistAndMatch}
use Rattle.gx_refs.specs.declared.edit.RefEdit.{RefEdit}
use Rattle.gx_refs.specs.declared.edit.RefLog.TheVariants.{AndReference}
use Rattle.gx_refs.specs.declared.error.RefError.{RefError}
use Rattle.gx_refs.specs.declared.reference.Reference.{Reference}
use Rattle.gix.specs.EditReferences.{edit_references_meaning}
use Rattle.gix.specs.Meaning.{Meaning}

-- What edits mean that nobody signs: settings name no committer. So one that a log is to be told of is refused.
abbrev pub unsigned_meaning : List RefEdit → Meaning (List RefEdit) RefError
unsigned_meaning edits = edit_references_meaning None edits

-- A call that makes one edit, which nobody signs, and answers this in place of what was made.
abbrev pub answering : {Answer : Type 0} → Answer → RefEdit → Meaning Answer RefError
answering answer edit = let m = unsigned_meaning (edit ∷ []) in record {
  fails = m.fails;
  settles = λ given settings. settings;
  makes = λ settings old given new. (given ≡ answer) × ((made : List RefEdit) × m.makes settings old made new);
  leaves = m.leaves;
  causes = m.causes;
  accepts = λ settings old given new. (given ≡ answer) × ((made : List RefEdit) × m.accepts settings old made new);
  refuses = m.refuses;
}

-- a log is told this, with the change of its reference
abbrev pub telling : List ℕ → LogChange
telling message = record { mode = AndReference; force_create_reflog = false; message = message }

-- The name itself is let name the object, and no reference that it is symbolic to. (git-update-ref(1), "--no-deref")
abbrev pub update_of : List ℕ → ObjectId → PreviousValue → List ℕ → RefEdit
update_of name id expected message = record {
  change = Update (telling message) expected (target.Object id);
  name = name;
  deref = false;
}

-- the reference that names the object
abbrev pub naming : List ℕ → ObjectId → Reference
naming name id = record { name = name; target = target.Object id; peeled = None }

-- A reference is made, or changed, to name an object. (git-update-ref(1))
abbrev pub reference_meaning : List ℕ → ObjectId → PreviousValue → List ℕ → Meaning Reference RefError
reference_meaning name id expected message = answering (naming name id) (update_of name id expected message)

-- The reference is deleted with its log, if it still has that target. (git-update-ref(1), "-d")
abbrev pub deletion_of : Reference → RefEdit
deletion_of reference = record {
  change = Delete (MustExistAndMatch reference.target) AndReference;
  name = reference.name;
  deref = false;
}

-- what a deletion means
abbrev pub delete_meaning : Reference → Meaning (Unit {0}) RefError
delete_meaning reference = answering tt (deletion_of reference)
