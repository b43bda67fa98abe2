-- What an iterator over a tree gives.
use Rattle.std.specs.Prelude.{◌≡◌, ℕ, ◌+◌, ◌-◌, ◌<◌, List, [], ◌∷◌, length, drop, Option, Some, None, option_map, Result, Ok, Err}
use Rattle.std.specs.Option.{option_map_or}
use Rattle.gx_hash.specs.HashKind.{IsOfKind}
use Rattle.gx_object.specs.declared.decode.DecodeError.{DecodeError}
use Rattle.gx_object.specs.declared.decode.DecodeError.TheVariants.{Decode}
use Rattle.gx_object.specs.declared.tree.Entry.{Entry}
use Rattle.gx_object.specs.declared.tree.decode.EntryRef.{EntryRef}
use Rattle.gx_object.specs.PartsRead.{ObjectText, PartsRead}
use Rattle.gx_object.specs.TreeSpelling.{entry_of, ReadsUpTo}

-- Of the entries that are left, the first, whose id is of the kind that was asked for. After the last comes the error,
-- where the bytes go on after the last entry, and else nothing.
abbrev pub IsNext : ObjectText → List Entry → ℕ → Option (Result EntryRef DecodeError) → Type 0
IsNext text (entry ∷ left) end (Some (Ok item)) = (entry_of item ≡ entry) × IsOfKind text.hash item.oid
IsNext text [] end (Some (Err error)) = (end < length text.bytes) × (error ≡ Decode end)
IsNext text [] end None = end ≡ length text.bytes
IsNext text left end item = ⊥

-- The next of these entries, which end here, where this many of them were given. After an error nothing comes.
abbrev pub GoesOn : ObjectText → List Entry → ℕ → Option ℕ → Option (Result EntryRef DecodeError) → Type 0
GoesOn text entries end (Some n) item = IsNext text (drop n entries) end item
GoesOn text entries end None item = item ≡ None

-- how many entries were given after a call, until an error has come
abbrev pub given_after : Option ℕ → Option (Result EntryRef DecodeError) → Option ℕ
given_after given (Some (Ok item)) = option_map (λ n. n + 1) given
given_after given (Some (Err error)) = None
given_after given None = given

-- What a call of the iterator gives: the next of the entries that the bytes have in front, then the error, where
-- something else follows them, and then the end.
pub record GivesEntry (old : PartsRead) (item : Option (Result EntryRef DecodeError)) (new : PartsRead) : Type 0 where
  pub same : new.text ≡ old.text
  pub count : new.given ≡ given_after old.given item
  pub next : (entries : List Entry) (end : ℕ) → ReadsUpTo old.text.hash old.text.bytes entries end
      → GoesOn old.text entries end old.given item

-- No more items come than bytes are left.
abbrev pub entries_left : PartsRead → ℕ
entries_left read = option_map_or (λ n. length read.text.bytes - n) read.given 0
