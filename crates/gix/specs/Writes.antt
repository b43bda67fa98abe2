-- Objects that are written.
use Rattle.std.specs.Prelude.{◌≡◌, ℕ, Bool, true, List, [], ◌∷◌, Option, Some, None}
use Rattle.gx_hash.specs.HashKind.{IsOfKind}
use Rattle.gx_hash.specs.declared.kind.HashKind.{HashKind}
use Rattle.gx_hash.specs.declared.oid.ObjectId.{ObjectId}
use Rattle.gx_object.specs.declared.encode.EncodeError.{EncodeError}
use Rattle.gx_object.specs.declared.encode.EncodeError.TheVariants as encode
use Rattle.gx_object.specs.declared.encode.Field.{Field}
use Rattle.gx_object.specs.declared.kind.Kind.{Kind}
use Rattle.gx_object.specs.Field.{first_unwritable}
use Rattle.gx_store.specs.Content.{AreApart, id_of, lookup, with_object}
use Rattle.gx_store.specs.State.{StoreState, Becomes, HasCause, all_stored}
use Rattle.gx_store.specs.declared.error.StoreError.{StoreError}
use Rattle.gx_store.specs.declared.error.StoreError.TheVariants.{Fault, NoMemory}
use Rattle.gix.specs.declared.object.write.WriteError.{WriteError}
use Rattle.gix.specs.declared.object.write.WriteError.TheVariants as write
use Rattle.gix.specs.Meaning.{Meaning}
use Rattle.gix.specs.View.{State}

-- ---- one object

-- An object is stored under its id. Where that was there already, all stays as it is. (git-hash-object(1), "-w")
pub record Stores (object : Kind × List ℕ) (old : StoreState) (id : ObjectId) (new : StoreState) : Type 0 where
  pub is_id : id ≡ id_of old.hash object
  pub kind : IsOfKind old.hash id
  pub becomes : Becomes (all_stored (object ∷ []) old) new

-- The same to the machine: the content gains the object where its id is absent, and nothing else is changed. It is
-- found then at its id, where the objects there share no digest with it.
pub record AcceptsObject (object : Kind × List ℕ) (old : State) (id : ObjectId) (new : State) : Type 0 where
  pub is_id : id ≡ id_of old.hash object
  pub same : new ≡ record old { content = with_object id object old.content }
  pub stored : AreApart old.hash old.content (object ∷ []) → lookup new.content id ≡ Some object

-- ---- calls that write one

-- What is asked to be written, or refused for what was handed in.
pub record Writing (Error : Type 0) : Type 1 where
  -- the object's kind and bytes
  pub object : Kind × List ℕ
  -- what holds where it is written, by the kind of ids
  pub may : HashKind → Type 0
  -- why it is refused
  pub why : HashKind → Error → Type 0
  -- what of an error is the store's
  pub fails : Error → Option StoreError

-- A refusal leaves all as it was. A fault of the store and lack of memory leave the same, but for the count of faults.
abbrev pub LeavesObject : StoreState → StoreState → Option StoreError → Type 0
LeavesObject old new None = new ≡ old
LeavesObject old new (Some failure) = Becomes old new

-- Why an error came: a refusal for its cause, and a fault of the store, which was counted. Lack of memory needs none.
abbrev pub WriteCauses : {Error : Type 0} → Writing Error → StoreState → StoreState → Error → Option StoreError
    → Type 0
WriteCauses w old new e None = w.why old.hash e
WriteCauses w old new e (Some (Fault fault)) = HasCause old new fault
WriteCauses w old new e (Some NoMemory) = Unit {0}

-- A call that writes one object, and answers its id.
abbrev pub writes : {Error : Type 0} → Writing Error → Meaning ObjectId Error
writes w = record {
  fails = w.fails;
  settles = λ id settings. settings;
  makes = λ settings old id new. w.may old.hash × Stores w.object old id new;
  leaves = λ settings old new e. LeavesObject old new (w.fails e);
  causes = λ settings old new e. WriteCauses w old new e (w.fails e);
  accepts = λ settings old id new. w.may old.hash × AcceptsObject w.object old id new;
  refuses = λ settings old e new. (new ≡ old) × w.why old.hash e;
}

-- ---- bytes and values

-- how an error of the store is told
abbrev pub not_written : StoreError → WriteError
not_written NoMemory = write.NoMemory
not_written (Fault fault) = write.Store fault

-- how it is told that an object has no spelling
abbrev pub not_spelled : EncodeError → WriteError
not_spelled encode.NoMemory = write.NoMemory
not_spelled (encode.Unwritable field) = write.Unwritable field

-- what of an error is the store's
abbrev pub write_part : WriteError → Option StoreError
write_part (write.Store fault) = Some (Fault fault)
write_part write.NoMemory = Some NoMemory
write_part e = None

-- Any bytes may be written, and are not refused.
abbrev pub buffer_writing : Kind → List ℕ → Writing WriteError
buffer_writing kind bytes = record {
  object = (kind, bytes);
  may = λ hash. Unit {0};
  why = λ hash e. ⊥;
  fails = write_part;
}

-- The first field that can't be written is told.
abbrev pub NamesFirst : (Field → Bool) → WriteError → Type 0
NamesFirst is_writable (write.Unwritable field) = first_unwritable is_writable ≡ Some field
NamesFirst is_writable e = ⊥

-- A value is written in its spelling, where each of its fields can be written.
abbrev pub object_writing : Kind → List ℕ → (Field → Bool) → Writing WriteError
object_writing kind spelling is_writable = record {
  object = (kind, spelling);
  may = λ hash. (field : Field) → is_writable field ≡ true;
  why = λ hash e. NamesFirst is_writable e;
  fails = write_part;
}
