-- Why a stored tree has no path map.
use Rattle.std.specs.Prelude.{◌≡◌, ◌≢◌, ℕ, true, List, [], ◌∷◌, map, Some, None, IfSome, Contains}
use Rattle.std.specs.List.{AllByRecursion}
use Rattle.std.specs.List.Sorted.{IsStrictlySortedBy}
use Rattle.gx_hash.specs.declared.kind.HashKind.{HashKind}
use Rattle.gx_hash.specs.declared.oid.ObjectId.{ObjectId}
use Rattle.gx_hash.specs.HashKind.{kind_of}
use Rattle.gx_hash.specs.ObjectId.{object_id, null_id}
use Rattle.gx_rules.specs.Name.{name_cmp}
use Rattle.gx_object.specs.declared.kind.Kind.TheVariants as kind
use Rattle.gx_object.specs.declared.tree.Entry.{Entry}
use Rattle.gx_object.specs.declared.tree.EntryKind.{EntryKind}
use Rattle.gx_object.specs.Kind.{kind_name}
use Rattle.gx_object.specs.Mode.{mode_of, is_tree_mode}
use Rattle.gx_object.specs.Tree.{tree_bytes, sort_key}
use Rattle.gx_object.specs.TreeSpelling.{SpellsTree}
use Rattle.gx_store.specs.Content.{Content, lookup}
use Rattle.gx_store.specs.State.{StoreState, IsUnreadable}
use Rattle.gx_store.specs.declared.error.What.TheVariants as what
use Rattle.gx_edit.specs.Path.{IsName}
use Rattle.gx_edit.specs.StoredTree.{HasEntries}
use Rattle.gx_edit.specs.declared.error.EditError.{EditError}
use Rattle.gx_edit.specs.declared.error.EditError.TheVariants as edit_error

-- An entry of a tree has a name, one of the five modes, and an id that is not null. (git-fsck(1), "fullPathname",
-- "badFilemode", "nullSha1")
pub record IsSound (entry : Entry) : Type 0 where
  pub name : IsName entry.filename
  pub mode : (kind : EntryKind) × (entry.mode.value ≡ mode_of kind)
  pub id : entry.oid ≢ null_id (kind_of entry.oid)

-- Entries rise by their sort keys. (git-fsck(1), "treeNotSorted")
abbrev pub AreRising : List Entry → Type 0
AreRising entries = IsStrictlySortedBy name_cmp (map sort_key entries)

-- No entry has the name of one before it. (git-fsck(1), "duplicateEntries")
abbrev pub HaveOwnNames : List Entry → Type 0
HaveOwnNames [] = Unit {0}
HaveOwnNames (entry ∷ entries) = AllByRecursion (λ other. entry.filename ≢ other.filename) entries
    × HaveOwnNames entries

-- The bytes are the spelling that is written of these entries, which are sound and rise, and have names of their
-- own. (git-mktree(1))
pub record SpellsCanonically (hash : HashKind) (bytes : List ℕ) (entries : List Entry) : Type 0 where
  pub spelled : SpellsTree hash bytes entries
  pub written : bytes ≡ tree_bytes entries
  pub sound : AllByRecursion IsSound entries
  pub rising : AreRising entries
  pub names : HaveOwnNames entries

-- The first tree has the second one as an entry.
pub record HasSubtree (hash : HashKind) (content : Content) (tree subtree : ObjectId) : Type 0 where
  pub entries : List Entry
  pub entry : Entry
  pub has : HasEntries hash content tree entries
  pub among : Contains entries entry
  pub is_tree : is_tree_mode entry.mode.value ≡ true
  pub id_is : entry.oid ≡ subtree

-- The id is the root, or entries of trees lead to it from there.
pub data IsAtOrBelow (hash : HashKind) (content : Content) (root : ObjectId) : ObjectId → Type 0 where
  here : IsAtOrBelow hash content root root
  below : (above id : ObjectId) → IsAtOrBelow hash content root above → HasSubtree hash content above id
      → IsAtOrBelow hash content root id

-- Why a tree at or below the root makes the root no tree of a path map: it is not spelled canonically, it is stored
-- under another id than its own, it is empty and below the root, or it stands below itself.
pub data HasNoMap (hash : HashKind) (content : Content) (root id : ObjectId) : Type 0 where
  spelling : (bytes : List ℕ) → lookup content id ≡ Some (kind.Tree, bytes)
      → ((entries : List Entry) → ¬ SpellsCanonically hash bytes entries) → HasNoMap hash content root id
  digest : (bytes : List ℕ) → lookup content id ≡ Some (kind.Tree, bytes)
      → (id ≢ object_id hash (kind_name kind.Tree) bytes) → HasNoMap hash content root id
  empty : (above : ObjectId) → IsAtOrBelow hash content root above → HasSubtree hash content above id
      → lookup content id ≡ Some (kind.Tree, []) → HasNoMap hash content root id
  cycle : (above : ObjectId) → IsAtOrBelow hash content id above → HasSubtree hash content above id
      → HasNoMap hash content root id

-- the id is stored as a tree
abbrev pub IsStoredTree : Content → ObjectId → Type 0
IsStoredTree content id = (bytes : List ℕ) × (lookup content id ≡ Some (kind.Tree, bytes))

-- Why the path map of a tree is not read: some id at or below the root can't be read, is not stored, is no tree, or has
-- no path map; or there is no memory.
abbrev pub ReadMapCauses : StoreState → ObjectId → EditError → Type 0
ReadMapCauses state root edit_error.NoMemory = Unit {0}
ReadMapCauses state root (edit_error.Store fault) = (id : ObjectId) × IsUnreadable state (what.Object id) fault
    × IfSome state.content (λ content. IsAtOrBelow state.hash content root id)
ReadMapCauses state root (edit_error.FindExistingObject id) = IfSome state.content
    (λ content. IsAtOrBelow state.hash content root id × (lookup content id ≡ None))
ReadMapCauses state root (edit_error.ObjectKind id actual) = IfSome state.content
    (λ content. IsAtOrBelow state.hash content root id × (actual ≢ kind.Tree) × (bytes : List ℕ)
    × (lookup content id ≡ Some (actual, bytes)))
ReadMapCauses state root (edit_error.Decode id) = IfSome state.content
    (λ content. IsAtOrBelow state.hash content root id × HasNoMap state.hash content root id)
ReadMapCauses state root _ = ⊥
