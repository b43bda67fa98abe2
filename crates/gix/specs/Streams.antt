-- Objects that are written of all that a source has.
use Rattle.std.specs.Prelude.{◌≡◌, ◌≢◌, ◌≤◌, ◌<◌, ◌+◌, ◌^◌, ℕ, List, length, Option, Some, Result, Err, IfSome}
use Rattle.gx_hash.specs.declared.kind.HashKind.{HashKind}
use Rattle.gx_hash.specs.declared.oid.ObjectId.{ObjectId}
use Rattle.gx_object.specs.declared.kind.Kind.{Kind}
use Rattle.gx_store.specs.Content.{id_of}
use Rattle.gx_store.specs.Faults.{Rose}
use Rattle.gx_store.specs.Outside.{Takes, IsEnd}
use Rattle.gix.specs.declared.object.write.WriteError.{WriteError}
use Rattle.gix.specs.declared.object.write.WriteError.TheVariants.{Unwritable, Read, TooLarge, SizeMismatch, IdMismatch, Store, NoMemory}
use Rattle.gix.specs.Held.{Held}
use Rattle.gix.specs.Meaning.{Means}
use Rattle.gix.specs.Writes.{Writing, writes, write_part}

-- A source at a moment: what is left of it, where that is told, and its count of faults.
pub record SourceState : Type 0 where
  pub left : Option (List ℕ)
  pub faults : ℕ

-- the state of a source of a type that has these meanings
abbrev pub source_state : {I : Type 0} → (I → Option (List ℕ)) → (I → ℕ) → I → SourceState
source_state left faults source = record { left = left source; faults = faults source }

-- What is known beforehand of an object that a source has: its kind, and its size and its id where they are given.
pub record Declared : Type 0 where
  pub kind : Kind
  pub size : Option ℕ
  pub id : Option ObjectId

-- the most bytes of an object that comes from a source (ours)
abbrev pub stream_limit : ℕ
stream_limit = 2 ^ 30

-- These are all the bytes of the source, and they have the declared size.
pub record IsWhole (declared : Declared) (bytes : List ℕ) (rest : SourceState) : Type 0 where
  pub ended : IsEnd rest.left
  pub size : IfSome declared.size (λ size. size ≡ length bytes)

-- Of the bytes that were taken, an error tells that no more could be read; that they are more than the limit; that the
-- source has ended, and they are not of the declared size; or that they are, and have not the given id.
abbrev pub StreamCauses : Declared → List ℕ → SourceState → SourceState → HashKind → WriteError → Type 0
StreamCauses declared bytes source rest hash Read = Rose source.faults rest.faults
StreamCauses declared bytes source rest hash TooLarge = length bytes ≡ stream_limit + 1
StreamCauses declared bytes source rest hash (SizeMismatch size found) =
    IsEnd rest.left × (declared.size ≡ Some size) × (found ≡ length bytes) × (size ≢ found)
StreamCauses declared bytes source rest hash (IdMismatch given found) =
    IsWhole declared bytes rest × (declared.id ≡ Some given) × (found ≡ id_of hash (declared.kind, bytes))
    × (given ≢ found)
StreamCauses declared bytes source rest hash (Unwritable field) = ⊥
StreamCauses declared bytes source rest hash (Store fault) = ⊥
StreamCauses declared bytes source rest hash NoMemory = ⊥

-- The bytes that were taken are an object: they are all that the source has, and of the declared size and id.
abbrev pub stream_writing : Declared → List ℕ → SourceState → SourceState → Writing WriteError
stream_writing declared bytes source rest = record {
  object = (declared.kind, bytes);
  may = λ hash. IsWhole declared bytes rest
      × IfSome declared.id (λ given. given ≡ id_of hash (declared.kind, bytes));
  why = λ hash e. StreamCauses declared bytes source rest hash e;
  fails = write_part;
}

-- A source is written to a repository: bytes are taken from it, and become an object, or are refused. Of more bytes
-- than the limit one is taken, and they are refused for that.
pub record WritesStream (declared : Declared) (source : SourceState) (old : Held)
    (outcome : Result ObjectId WriteError) (rest : SourceState) (new : Held) : Type 0 where
  pub bytes : List ℕ
  pub takes : Takes source.left rest.left bytes
  pub later : source.faults ≤ rest.faults
  pub large : stream_limit < length bytes → outcome ≡ Err TooLarge
  pub means : Means (writes (stream_writing declared bytes source rest)) old outcome new
