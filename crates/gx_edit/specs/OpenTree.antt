-- One stored tree, for the functions that open it.
use Rattle.std.specs.Prelude.{◌≡◌, ◌≢◌, ◌⊎◌, ℕ, List, map, Option, Some, None, IfSome, Contains}
use Rattle.std.specs.List.{AllByRecursion}
use Rattle.gx_hash.specs.declared.kind.HashKind.{HashKind}
use Rattle.gx_hash.specs.declared.oid.ObjectId.{ObjectId}
use Rattle.gx_hash.specs.ObjectId.{object_id}
use Rattle.gx_object.specs.declared.kind.Kind.TheVariants as kind
use Rattle.gx_object.specs.declared.tree.Entry.{Entry}
use Rattle.gx_object.specs.Kind.{kind_name}
use Rattle.gx_object.specs.Tree.{tree_bytes}
use Rattle.gx_object.specs.TreeSpelling.{SpellsTree}
use Rattle.gx_store.specs.Content.{Content, lookup}
use Rattle.gx_store.specs.State.{StoreState, IsUnreadable}
use Rattle.gx_store.specs.declared.error.What.TheVariants as what
use Rattle.gx_edit.specs.ReadMapCauses.{IsSound, AreRising, SpellsCanonically}
use Rattle.gx_edit.specs.declared.error.EditError.{EditError}
use Rattle.gx_edit.specs.declared.error.EditError.TheVariants as edit_error
use Rattle.gx_edit.specs.declared.stored_tree.open_tree.OpenTree.{OpenTree}

-- the bytes are the spelling that is written of these entries and of no others, and the entries are sound and rise
pub record SpellsRising (hash : HashKind) (bytes : List ℕ) (entries : List Entry) : Type 0 where
  pub spelled : SpellsTree hash bytes entries
  pub only : (others : List Entry) → SpellsTree hash bytes others → entries ≡ others
  pub written : bytes ≡ tree_bytes entries
  pub sound : AllByRecursion IsSound entries
  pub rising : AreRising entries

-- the tree that is stored under the id, which is its own; what is stored may be untold
pub record IsOpened (hash : HashKind) (told : Option Content) (id : ObjectId) (tree : OpenTree) : Type 0 where
  pub id_is : tree.id ≡ id
  pub stored : IfSome told (λ content. lookup content id ≡ Some (kind.Tree, tree_bytes tree.entries.items))
  pub own : id ≡ object_id hash (kind_name kind.Tree) (tree_bytes tree.entries.items)
  pub spells : SpellsRising hash (tree_bytes tree.entries.items) tree.entries.items

-- Why the tree at the id is not loaded: it can't be read, is not stored, is no tree, or its bytes spell none.
abbrev pub LoadCauses : StoreState → ObjectId → EditError → Type 0
LoadCauses state id edit_error.NoMemory = Unit {0}
LoadCauses state id (edit_error.Store fault) = IsUnreadable state (what.Object id) fault
LoadCauses state id (edit_error.FindExistingObject named) = (named ≡ id)
    × IfSome state.content (λ content. lookup content id ≡ None)
LoadCauses state id (edit_error.ObjectKind named actual) = (named ≡ id)
    × IfSome state.content (λ content. (actual ≢ kind.Tree) × (bytes : List ℕ)
    × (lookup content id ≡ Some (actual, bytes)))
LoadCauses state id (edit_error.Decode named) = (named ≡ id) × IfSome state.content (λ content. (bytes : List ℕ)
    × (lookup content id ≡ Some (kind.Tree, bytes)) × ((entries : List Entry) → ¬ SpellsTree state.hash bytes entries))
LoadCauses state id _ = ⊥

-- Why the tree at the id is not opened.
abbrev pub OpenCauses : StoreState → ObjectId → EditError → Type 0
OpenCauses state id edit_error.NoMemory = Unit {0}
OpenCauses state id (edit_error.Store fault) = IsUnreadable state (what.Object id) fault
OpenCauses state id (edit_error.FindExistingObject named) = (named ≡ id)
    × IfSome state.content (λ content. lookup content id ≡ None)
OpenCauses state id (edit_error.ObjectKind named actual) = (named ≡ id)
    × IfSome state.content (λ content. (actual ≢ kind.Tree) × (bytes : List ℕ)
    × (lookup content id ≡ Some (actual, bytes)))
OpenCauses state id (edit_error.Decode named) = (named ≡ id) × IfSome state.content (λ content. (bytes : List ℕ)
    × (lookup content id ≡ Some (kind.Tree, bytes))
    × (((entries : List Entry) → ¬ SpellsCanonically state.hash bytes entries)
    ⊎ (id ≢ object_id state.hash (kind_name kind.Tree) bytes)))
OpenCauses state id _ = ⊥

-- the id is that of one of the trees
abbrev pub IsOneOf : ObjectId → List OpenTree → Type 0
IsOneOf id trees = Contains (map (λ (tree : OpenTree). tree.id) trees) id
