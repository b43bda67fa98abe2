-- How a tree is read.
use Rattle.std.specs.Prelude.{◌≡◌, ℕ, ◌<◌, ◌≤◌, ◌^◌, List, ◌∷◌, ◌++◌, length, take, Some, IsTrue}
use Rattle.std.specs.List.{AllZip, concat}
use Rattle.gx_hash.specs.declared.kind.HashKind.{HashKind}
use Rattle.gx_hash.specs.ObjectId.{bytes_of, id_from_bytes}
use Rattle.bstr.specs.BStr.{bstr_bytes}
use Rattle.gx_object.specs.declared.decode.DecodeError.{DecodeError}
use Rattle.gx_object.specs.declared.decode.DecodeError.TheVariants.{Decode, NoMemory}
use Rattle.gx_object.specs.declared.tree.Entry.{Entry}
use Rattle.gx_object.specs.declared.tree.decode.EntryRef.{EntryRef}
use Rattle.gx_object.specs.TimeSpelling.{SpellsNumber}
use Rattle.gx_object.specs.Tree.{is_writable_filename}

-- a borrowed entry as the entry that it is
abbrev pub entry_of : EntryRef → Entry
entry_of e = record { mode = e.mode; filename = bstr_bytes e.filename; oid = e.oid }

-- A mode is one to six octal digits, up to 177777. (Git, "Git Internals - Git Objects", "Tree Objects"; that leading
-- zeros and modes that Git never writes are read is ours)
pub record SpellsMode (digits : List ℕ) (mode : ℕ) : Type 0 where
  pub number : SpellsNumber 8 digits mode
  pub short : length digits ≤ 6
  pub small : mode < 2 ^ 16

-- An entry is its mode, a space, its name, a zero byte and its id's bytes. (Git, "Git Internals - Git Objects",
-- "Tree Objects")
pub record SpellsEntry (hash : HashKind) (bytes : List ℕ) (entry : Entry) : Type 0 where
  pub digits : List ℕ
  pub id : List ℕ
  pub whole : bytes ≡ digits ++ 32 ∷ entry.filename ++ 0 ∷ id
  pub mode : SpellsMode digits entry.mode.value
  pub filename : IsTrue (is_writable_filename entry.filename)
  pub oid : id_from_bytes hash id ≡ Some entry.oid

-- A tree is spellings of its entries, one after another, in any order.
abbrev pub SpellsTree : HashKind → List ℕ → List Entry → Type 0
SpellsTree hash bytes entries =
    (parts : List (List ℕ)) × (bytes ≡ concat parts) × AllZip (SpellsEntry hash) parts entries

-- the longest front of the bytes that is made of whole entries, these, ends here
pub record ReadsUpTo (hash : HashKind) (bytes : List ℕ) (entries : List Entry) (end : ℕ) : Type 0 where
  pub within : end ≤ length bytes
  pub front : SpellsTree hash (take end bytes) entries
  pub longest : (longer : ℕ) (others : List Entry) → end < longer → longer ≤ length bytes
      → ¬ SpellsTree hash (take longer bytes) others

-- Bytes that are no tree are refused at the end of that front, where the first thing begins that is no entry.
pub record IsBadPlace (hash : HashKind) (bytes : List ℕ) (at : ℕ) : Type 0 where
  pub before : List Entry
  pub reads : ReadsUpTo hash bytes before at
  pub more : at < length bytes

-- Why bytes are not read as a tree: they are none, and go wrong at the place; or they are one, and memory ran out.
abbrev pub TreeCauses : HashKind → List ℕ → DecodeError → Type 0
TreeCauses hash bytes (Decode at) = IsBadPlace hash bytes at
TreeCauses hash bytes NoMemory = (entries : List Entry) × SpellsTree hash bytes entries

-- the entry that the bytes begin with, and what follows it
abbrev pub BeginsWithEntry : HashKind → List ℕ → Entry → List ℕ → Type 0
BeginsWithEntry hash bytes entry rest = (text : List ℕ) × (bytes ≡ text ++ rest) × SpellsEntry hash text entry

-- what is written of the entry spells it
pub record HasSpelling (hash : HashKind) (entry : Entry) : Type 0 where
  pub mode : entry.mode.value < 2 ^ 16
  pub filename : IsTrue (is_writable_filename entry.filename)
  pub oid : id_from_bytes hash (bytes_of entry.oid) ≡ Some entry.oid
