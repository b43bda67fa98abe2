-- Why one of some entries is refused.
use Rattle.std.specs.Prelude.{◌≡◌, ◌≢◌, false, List, Option, IsTrue, IfSome, IsSomeAnd, Contains}
use Rattle.gx_rules.specs.Component.{IsFirstViolated}
use Rattle.gx_rules.specs.declared.component_rules.Protect.{Protect}
use Rattle.gx_hash.specs.declared.oid.ObjectId.{ObjectId}
use Rattle.gx_object.specs.declared.tree.Entry.{Entry}
use Rattle.gx_object.specs.declared.tree.EntryKind.TheVariants as entry_kind
use Rattle.gx_object.specs.Mode.{kind_of_mode}
use Rattle.gx_store.specs.Content.{IsStored}
use Rattle.gx_store.specs.State.{StoreState}
use Rattle.gx_store.specs.declared.error.What.TheVariants as what
use Rattle.gx_hash.specs.ObjectIds.{has_id}
use Rattle.gx_edit.specs.Entries.{IsEntry, IsComplete, is_link}
use Rattle.gx_edit.specs.declared.error.EditError.{EditError}
use Rattle.gx_edit.specs.declared.error.EditError.TheVariants.{InvalidFilename, MissingObject, Store, NoMemory}

-- the error tells the first rule that the entry's name breaks
abbrev pub IsUnsafe : Option Protect → Entry → EditError → Type 0
IsUnsafe protect entry (InvalidFilename filename kind id source) = IsEntry entry filename kind id
    × IsSomeAnd protect (λ p. IsFirstViolated entry.filename (is_link entry) p source)
IsUnsafe protect entry NoMemory = Unit {0}
IsUnsafe protect entry _ = ⊥

-- the entry, no submodule, names what is not stored, or can't be read
abbrev pub IsMissing : StoreState → Entry → EditError → Type 0
IsMissing state entry (MissingObject filename kind id) = IsEntry entry filename kind id × (kind ≢ entry_kind.Commit)
    × IfSome state.content (λ content. IsStored content id → ⊥)
IsMissing state entry (Store (what.Object id)) = IsTrue (state.unreadable (what.Object id)) × (entry.oid ≡ id)
    × (kind_of_mode entry.mode.value ≢ entry_kind.Commit)
IsMissing state entry NoMemory = Unit {0}
IsMissing state entry _ = ⊥

-- neither of the lists has the id
abbrev pub IsOutside : List ObjectId → List ObjectId → ObjectId → Type 0
IsOutside given trees id = (has_id given id ≡ false) × (has_id trees id ≡ false)

-- the entry names what is stored, where neither of the lists has it
abbrev pub IsCompleteOutside : StoreState → List ObjectId → List ObjectId → Entry → Type 0
IsCompleteOutside state given trees entry = IsOutside given trees entry.oid → IsComplete state entry

-- neither of the lists has what the entry names, and it is missing
abbrev pub IsMissingOutside : StoreState → List ObjectId → List ObjectId → Entry → EditError → Type 0
IsMissingOutside state given trees entry error = IsOutside given trees entry.oid × IsMissing state entry error

-- one of the entries is refused so
pub record OneOf (entries : List Entry) (P : Entry → EditError → Type 0) (error : EditError) : Type 0 where
  pub entry : Entry
  pub among : Contains entries entry
  pub refused : P entry error
