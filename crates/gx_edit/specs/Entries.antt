-- What is asked of the entries of trees that are to be written.
use Rattle.std.specs.Prelude.{◌≡◌, ◌≢◌, ℕ, Bool, true, false, List, Option, IfSome}
use Rattle.gx_hash.specs.declared.oid.ObjectId.{ObjectId}
use Rattle.gx_rules.specs.Component.{IsComponent}
use Rattle.gx_rules.specs.declared.component_rules.Protect.{Protect}
use Rattle.gx_object.specs.declared.tree.Entry.{Entry}
use Rattle.gx_object.specs.declared.tree.EntryKind.{EntryKind}
use Rattle.gx_object.specs.declared.tree.EntryKind.TheVariants as entry_kind
use Rattle.gx_object.specs.Mode.{kind_of_mode}
use Rattle.gx_store.specs.Content.{IsStored}
use Rattle.gx_store.specs.State.{StoreState}

-- whether such an entry is a symbolic link
abbrev pub is_link_kind : EntryKind → Bool
is_link_kind entry_kind.Link = true
is_link_kind entry_kind.Tree = false
is_link_kind entry_kind.Blob = false
is_link_kind entry_kind.BlobExecutable = false
is_link_kind entry_kind.Commit = false

-- whether the entry is a symbolic link
abbrev pub is_link : Entry → Bool
is_link entry = is_link_kind (kind_of_mode entry.mode.value)

-- Where protections are given, the entry's name passes them.
abbrev pub IsSafe : Option Protect → Entry → Type 0
IsSafe protect entry = IfSome protect (IsComponent entry.filename (is_link entry))

-- The entry is a submodule, whose commit stands in another repository, or names what is stored, where the store tells
-- what it holds. (gitsubmodules(7))
abbrev pub IsComplete : StoreState → Entry → Type 0
IsComplete state entry = kind_of_mode entry.mode.value ≢ entry_kind.Commit
    → IfSome state.content (λ content. IsStored content entry.oid)

-- it is the entry that the error tells
pub record IsEntry (entry : Entry) (filename : List ℕ) (kind : EntryKind) (id : ObjectId) : Type 0 where
  pub named : filename ≡ entry.filename
  pub of_kind : kind ≡ kind_of_mode entry.mode.value
  pub is_id : id ≡ entry.oid
