-- Bytes that are taken from a source, and become an object.
use Rattle.std.proofs.Common.{◌≡◌, ◌≢◌, ◌∙◌, ◌≤◌, ◌<◌, ◌+◌, refl, sym, ap, subst, arith, ℕ, List, [], ◌∷◌, ◌++◌, append_assoc, length, length-append, Option, Some, None, Result, Ok, Err, IfOk, IfErr, IfSome}
use Rattle.gx_store.specs.Faults.{Rose}
use Rattle.gx_store.specs.Outside.{Takes, IsEnd}
use Rattle.gix.specs.declared.object.write.WriteError.{WriteError}
use Rattle.gix.specs.declared.object.write.WriteError.TheVariants.{Unwritable, Read, TooLarge, SizeMismatch, IdMismatch, Store, NoMemory}
use Rattle.gx_hash.specs.declared.oid.ObjectId.{ObjectId}
use Rattle.gix.specs.Held.{Held}
use Rattle.gix.specs.ObjectLaws.{WrittenIsStored}
use Rattle.gix.specs.Reading.{ReadCauses, ReadsMore, TookSome, TookTooMany, WroteAll, WroteNone}
use Rattle.gix.specs.Streams.{Declared, SourceState, WritesStream, stream_limit, stream_writing}
use Rattle.gix.proofs.WritingLemmas.{not_wrote, wrote}

pub takes_none : (a : Option (List ℕ)) → Takes a a []
takes_none None = tt
takes_none (Some a) = refl

pub takes_then : (a b c : Option (List ℕ)) (xs ys : List ℕ) → Takes a b xs → Takes b c ys → Takes a c (xs ++ ys)
takes_then None None None xs ys p q = tt
takes_then None None (Some c) xs ys p q = absurd q
takes_then None (Some b) c xs ys p q = absurd p
takes_then (Some a) None c xs ys p q = absurd p
takes_then (Some a) (Some b) None xs ys p q = absurd q
takes_then (Some a) (Some b) (Some c) xs ys p q = p ∙ ap (λ l. xs ++ l) q ∙ sym (append_assoc xs ys c)

-- ---- one byte more than the limit

pub too_many : (source middle rest : SourceState) (bytes : List ℕ) (byte : ℕ) → Takes source.left middle.left bytes → stream_limit ≤ length bytes → length bytes ≤ stream_limit → Takes middle.left rest.left (byte ∷ []) → TookTooMany source rest
too_many source middle rest bytes byte before least most last = record {
  bytes = bytes ++ byte ∷ [];
  takes = takes_then source.left middle.left rest.left bytes (byte ∷ []) before last;
  many = length-append bytes (byte ∷ []) ∙ omega (arith, least, most);
}

-- ---- a read that fails

rose_before : (a b c : ℕ) → a ≤ b → Rose b c → Rose a c
rose_before a b c p q = omega arith

some_more : (source middle rest : SourceState) (bytes taken : List ℕ) (most : ℕ) → Takes source.left middle.left bytes → length bytes + most ≤ stream_limit → Takes middle.left rest.left taken → length taken ≤ most → TookSome source rest
some_more source middle rest bytes taken most before room last few = record {
  bytes = bytes ++ taken;
  takes = takes_then source.left middle.left rest.left bytes taken before last;
  few = subst (λ n. n ≤ stream_limit) (sym (length-append bytes taken)) (omega (arith, room, few));
}

pub read_failed : (source middle rest : SourceState) (bytes old new : List ℕ) (most : ℕ) (e : WriteError) → Takes source.left middle.left bytes → length bytes + most ≤ stream_limit → source.faults ≤ middle.faults → ReadsMore most middle old rest new (Err e)
    → ReadCauses source rest e
read_failed source middle rest bytes old new most Read before room later read = (some_more source middle rest bytes [] most before room read.0 (omega arith), rose_before source.faults middle.faults rest.faults later read.1)
read_failed source middle rest bytes old new most NoMemory before room later read = some_more source middle rest bytes read.taken most before room read.takes read.few
read_failed source middle rest bytes old new most TooLarge before room later read = absurd read
read_failed source middle rest bytes old new most (Unwritable field) before room later read = absurd read
read_failed source middle rest bytes old new most (SizeMismatch size found) before room later read = absurd read
read_failed source middle rest bytes old new most (IdMismatch given found) before room later read = absurd read
read_failed source middle rest bytes old new most (Store fault) before room later read = absurd read

-- ---- what a stream's call means

pub stream_means : WrittenIsStored → (declared : Declared) (source rest : SourceState) (old new : Held) (outcome : Result ObjectId WriteError) → new.settings ≡ old.settings → source.faults ≤ rest.faults
    → IfOk outcome (WroteAll declared source old.store rest new.store) → IfErr outcome (WroteNone declared source old.store rest new.store) → WritesStream declared source old outcome rest new
stream_means stored declared source rest old new (Ok id) settings later all none = record {
  bytes = all.bytes;
  takes = all.takes;
  later = later;
  large = λ large. absurd (let few = all.few in omega (arith, large, few));
  means = wrote (stream_writing declared all.bytes source rest) stored old new id settings all.may all.stores;
}
stream_means stored declared source rest old new (Err e) settings later all none = record {
  bytes = none.bytes;
  takes = none.takes;
  later = later;
  large = λ large. ap Err (none.large large);
  means = not_wrote (stream_writing declared none.bytes source rest) old new e settings none.leaves none.causes;
}
