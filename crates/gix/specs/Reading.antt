-- How the bytes of a source are taken, for the functions that do.
use Rattle.std.specs.Prelude.{◌≡◌, ◌≢◌, ◌≤◌, ◌<◌, ◌+◌, ◌++◌, ◌∷◌, [], ℕ, Bool, true, false, List, length, Option, Some, Result, Ok, Err}
use Rattle.gx_hash.specs.declared.oid.ObjectId.{ObjectId}
use Rattle.gx_object.specs.declared.kind.Kind.{Kind}
use Rattle.gx_store.specs.Content.{id_of}
use Rattle.gx_store.specs.Faults.{Rose}
use Rattle.gx_store.specs.Outside.{Takes, IsEnd}
use Rattle.gx_store.specs.State.{StoreState, Becomes, HasCause}
use Rattle.gix.specs.declared.object.write.WriteError.{WriteError}
use Rattle.gix.specs.declared.object.write.WriteError.TheVariants.{Read, TooLarge, SizeMismatch, IdMismatch, Store, NoMemory}
use Rattle.gix.specs.Streams.{Declared, SourceState, stream_limit, stream_writing}
use Rattle.gix.specs.Writes.{LeavesObject, Stores, WriteCauses, write_part}

-- Bytes were taken and put behind others, and none only at the end.
pub record TookOnto (most : ℕ) (source : SourceState) (old : List ℕ) (rest : SourceState) (new : List ℕ) (count : ℕ)
    : Type 0 where
  pub taken : List ℕ
  pub takes : Takes source.left rest.left taken
  pub added : new ≡ old ++ taken
  pub size : length taken ≡ count
  pub few : count ≤ most
  pub ended : count ≡ 0 → IsEnd rest.left

-- Bytes were taken, at most this many.
pub record TookFew (most : ℕ) (source rest : SourceState) : Type 0 where
  pub taken : List ℕ
  pub takes : Takes source.left rest.left taken
  pub few : length taken ≤ most

-- Bytes were taken and put behind others, or were lost for lack of memory, or none were taken.
abbrev pub ReadsMore : ℕ → SourceState → List ℕ → SourceState → List ℕ → Result ℕ WriteError → Type 0
ReadsMore most source old rest new (Ok count) = TookOnto most source old rest new count
ReadsMore most source old rest new (Err Read) = Takes source.left rest.left [] × Rose source.faults rest.faults
ReadsMore most source old rest new (Err NoMemory) = TookFew most source rest
ReadsMore most source old rest new (Err e) = ⊥

-- One byte was taken, or the source has ended, or none was taken.
abbrev pub ReadsOne : SourceState → SourceState → Result Bool WriteError → Type 0
ReadsOne source rest (Ok true) = (byte : ℕ) × Takes source.left rest.left (byte ∷ [])
ReadsOne source rest (Ok false) = Takes source.left rest.left [] × IsEnd rest.left
ReadsOne source rest (Err Read) = Takes source.left rest.left [] × Rose source.faults rest.faults
ReadsOne source rest (Err e) = ⊥

-- All bytes of a source were taken, within the limit.
pub record TookAll (source rest : SourceState) (bytes : List ℕ) : Type 0 where
  pub takes : Takes source.left rest.left bytes
  pub few : length bytes ≤ stream_limit
  pub ended : IsEnd rest.left

-- Bytes were taken, within the limit.
pub record TookSome (source rest : SourceState) : Type 0 where
  pub bytes : List ℕ
  pub takes : Takes source.left rest.left bytes
  pub few : length bytes ≤ stream_limit

-- One byte more than the limit was taken.
pub record TookTooMany (source rest : SourceState) : Type 0 where
  pub bytes : List ℕ
  pub takes : Takes source.left rest.left bytes
  pub many : length bytes ≡ stream_limit + 1

-- why not all bytes were taken
abbrev pub ReadCauses : SourceState → SourceState → WriteError → Type 0
ReadCauses source rest Read = TookSome source rest × Rose source.faults rest.faults
ReadCauses source rest TooLarge = TookTooMany source rest
ReadCauses source rest NoMemory = TookSome source rest
ReadCauses source rest e = ⊥

-- ---- what becomes of them

-- why the bytes are not of the declared size
abbrev pub IsOtherSize : Option ℕ → ℕ → WriteError → Type 0
IsOtherSize declared size (SizeMismatch given found) = (declared ≡ Some given) × (found ≡ size) × (given ≢ found)
IsOtherSize declared size e = ⊥

-- why the id is not the one that was given
abbrev pub IsOtherId : Option ObjectId → ObjectId → WriteError → Type 0
IsOtherId declared id (IdMismatch given found) = (declared ≡ Some given) × (found ≡ id) × (given ≢ found)
IsOtherId declared id e = ⊥

-- why an object with a given id is not stored, and what of the store is left
abbrev pub CheckedCauses : Kind × List ℕ → Option ObjectId → StoreState → StoreState → WriteError → Type 0
CheckedCauses object given old new (Store fault) = Becomes old new × HasCause old new fault
CheckedCauses object given old new NoMemory = Becomes old new
CheckedCauses object given old new e = (new ≡ old) × IsOtherId given (id_of old.hash object) e

-- The bytes of a source became an object.
pub record WroteAll (declared : Declared) (source : SourceState) (old : StoreState) (rest : SourceState)
    (new : StoreState) (id : ObjectId) : Type 0 where
  pub bytes : List ℕ
  pub takes : Takes source.left rest.left bytes
  pub few : length bytes ≤ stream_limit
  pub may : (stream_writing declared bytes source rest).may old.hash
  pub stores : Stores (declared.kind, bytes) old id new

-- The bytes of a source became no object.
pub record WroteNone (declared : Declared) (source : SourceState) (old : StoreState) (rest : SourceState)
    (new : StoreState) (e : WriteError) : Type 0 where
  pub bytes : List ℕ
  pub takes : Takes source.left rest.left bytes
  pub large : stream_limit < length bytes → e ≡ TooLarge
  pub leaves : LeavesObject old new (write_part e)
  pub causes : WriteCauses (stream_writing declared bytes source rest) old new e (write_part e)
