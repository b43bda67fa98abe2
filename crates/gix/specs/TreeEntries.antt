-- Entries of trees that know their repository.
use Rattle.std.specs.Prelude.{◌≡◌, ℕ, List, Option, Result, Ok, Err, IfSome, IfOk, option_map, bytes_eq}
use Rattle.std.specs.List.{find}
use Rattle.gx_object.specs.PartsRead.{ObjectText, PartsRead}
use Rattle.gx_object.specs.TreeIter.{GivesEntry}
use Rattle.gx_object.specs.TreeSpelling.{ReadsUpTo, entry_of}
use Rattle.gx_object.specs.declared.decode.DecodeError.{DecodeError}
use Rattle.gx_object.specs.declared.tree.Entry.{Entry}
use Rattle.gx_object.specs.declared.tree.decode.EntryRef.{EntryRef as BareEntry}
use Rattle.gix.specs.declared.object.tree.entry.EntryRef.{EntryRef}
use Rattle.gix.specs.declared.object.tree.iter.Iter.{Iter}
use Rattle.gix.specs.declared.repository.Repository.{Repository}

-- An entry of a tree, and the repository that the tree is of.
pub record AttachedEntry (S : Type 0) : Type 0 where
  pub entry : Entry
  pub repository : Repository S

-- the entry that a value of the type is
abbrev pub of_entry : {S : Type 0} → EntryRef S → AttachedEntry S
of_entry entry = record { entry = entry_of entry.inner; repository = entry.repo.now }

-- the first of the entries with this name
abbrev pub first_named : List ℕ → List Entry → Option Entry
first_named name entries = find (λ entry. bytes_eq entry.filename name) entries

-- Of the entries that the bytes have in front, before the place where they go wrong, the first with this name is
-- answered. (gittree, "tree entries")
abbrev pub IsFirstNamed : ObjectText → List ℕ → Option Entry → Type 0
IsFirstNamed text name found = (entries : List Entry) (end : ℕ) → ReadsUpTo text.hash text.bytes entries end
    → found ≡ first_named name entries

-- what an iterator is to give, and the repository that its entries are of
abbrev pub entries_to_give : {S : Type 0} → Iter S → PartsRead × Repository S
entries_to_give it = (it.inner, it.repo.now)

-- an item without the repository
abbrev pub bare_item : {S : Type 0} → Result (EntryRef S) DecodeError → Result BareEntry DecodeError
bare_item (Ok entry) = Ok entry.inner
bare_item (Err error) = Err error

-- A call of the iterator gives the next entry, which is of the repository, or the error where the bytes go wrong.
pub record GivesTreeEntry {S : Type 0} (old : Iter S) (item : Option (Result (EntryRef S) DecodeError))
    (new : Iter S) : Type 0 where
  pub next : GivesEntry (entries_to_give old).0 (option_map bare_item item) (entries_to_give new).0
  pub attached : IfSome item (λ told. IfOk told (λ entry. (of_entry entry).repository ≡ (entries_to_give old).1))
  pub same : (entries_to_give new).1 ≡ (entries_to_give old).1
