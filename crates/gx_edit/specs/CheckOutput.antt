-- What it means that trees may be written, seen before any is.
use Rattle.std.specs.Prelude.{◌≡◌, ◌≢◌, true, false, List, map, Some, IfSome, IsTrue}
use Rattle.std.specs.List.{AllByRecursion}
use Rattle.gx_hash.specs.declared.oid.ObjectId.{ObjectId}
use Rattle.gx_rules.specs.Component.{IsFirstViolated}
use Rattle.gx_rules.specs.declared.component_rules.Protect.{Protect}
use Rattle.gx_object.specs.declared.tree.Entry.{Entry}
use Rattle.gx_object.specs.declared.tree.EntryKind.TheVariants as entry_kind
use Rattle.gx_object.specs.Mode.{kind_of_mode}
use Rattle.gx_hash.specs.ObjectIds.{has_id}
use Rattle.gx_store.specs.Content.{Content, IsStored, id_of}
use Rattle.gx_store.specs.State.{StoreState}
use Rattle.gx_store.specs.declared.error.What.TheVariants as what
use Rattle.gx_edit.specs.Output.{Output, SomeEntry}
use Rattle.gx_edit.specs.Entries.{is_link, IsSafe, IsEntry}
use Rattle.gx_edit.specs.declared.error.EditError.{EditError}
use Rattle.gx_edit.specs.declared.error.EditError.TheVariants.{InvalidFilename, MissingObject, Store, NoMemory}

-- The entry has to name what is stored already: it is no submodule, whose commit stands in another repository, and it
-- names neither one of the given ids nor one of the trees, which are still to be stored. (gitsubmodules(7))
pub record IsNeeded (output : Output) (given : List ObjectId) (entry : Entry) : Type 0 where
  pub no_submodule : kind_of_mode entry.mode.value ≢ entry_kind.Commit
  pub not_given : has_id given entry.oid ≡ false
  pub no_tree : has_id (map (id_of output.hash) output.trees) entry.oid ≡ false

-- The trees may be written with protections once objects of the given ids are stored: each entry passes the
-- protections, and what has to be stored already is, where that is told.
pub record MayBeWritten (output : Output) (protect : Protect) (given : List ObjectId)
    (state : StoreState) : Type 0 where
  pub safe : AllByRecursion (IsSafe (Some protect)) output.entries
  pub stored : AllByRecursion (λ entry. IsNeeded output given entry
      → IfSome state.content (λ content. IsStored content entry.oid)) output.entries

-- Why the trees may not be written, or that is not known. Out of memory needs no cause.
abbrev pub CheckCauses : Output → Protect → List ObjectId → StoreState → EditError → Type 0
CheckCauses output protect given state (InvalidFilename filename kind id source) = SomeEntry output
    (λ entry. IsEntry entry filename kind id × IsFirstViolated entry.filename (is_link entry) protect source)
CheckCauses output protect given state (MissingObject filename kind id) =
    SomeEntry output (λ entry. IsEntry entry filename kind id × IsNeeded output given entry
    × IfSome state.content (λ content. IsStored content id → ⊥))
CheckCauses output protect given state (Store (what.Object id)) = IsTrue (state.unreadable (what.Object id))
    × SomeEntry output (λ entry. (entry.oid ≡ id) × IsNeeded output given entry)
CheckCauses output protect given state NoMemory = Unit {0}
CheckCauses output protect given state _ = ⊥

-- ---- what was checked, and what is written then

-- A state is ready for what was checked of another one: it keeps what was stored there, and objects of the given ids
-- are stored too. Both tell what they hold.
pub record IsReady (given : List ObjectId) (checked ready : StoreState) : Type 0 where
  pub same_hash : ready.hash ≡ checked.hash
  pub before : Content
  pub after : Content
  pub told_before : checked.content ≡ Some before
  pub told_after : ready.content ≡ Some after
  pub kept : (id : ObjectId) → IsStored before id → IsStored after id
  pub brought : (id : ObjectId) → has_id given id ≡ true → IsStored after id

-- The error tells of the store or of memory, and so of no fault that trees have.
abbrev pub IsOfStore : EditError → Type 0
IsOfStore (Store fault) = Unit {0}
IsOfStore NoMemory = Unit {0}
IsOfStore _ = ⊥
