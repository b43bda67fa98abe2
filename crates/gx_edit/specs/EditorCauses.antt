-- Why an edit of a tree is refused.
use Rattle.std.specs.Prelude.{◌≡◌, ◌⊎◌, ℕ, Bool, true, false, if◌then◌else◌, List, [], ◌∷◌, Option, Some, None, IfSome}
use Rattle.gx_hash.specs.declared.kind.HashKind.{HashKind}
use Rattle.gx_hash.specs.declared.oid.ObjectId.{ObjectId}
use Rattle.gx_object.specs.Mode.{is_tree_mode}
use Rattle.gx_store.specs.State.{StoreState}
use Rattle.gx_edit.specs.Path.{Path}
use Rattle.gx_edit.specs.PathList.{has_empty_name}
use Rattle.gx_edit.specs.OpenTree.{LoadCauses}
use Rattle.gx_edit.specs.StoredTree.{IsReadable}
use Rattle.gx_edit.specs.View.{Names, View, WhereLoaded, item_in, leads, is_null, below, opened}
use Rattle.gx_edit.specs.declared.editor.item.Item.{Item}
use Rattle.gx_edit.specs.declared.error.EditError.{EditError}
use Rattle.gx_edit.specs.declared.error.EditError.TheVariants as edit_error

-- The directory of this name is not loaded, and its tree has this id in the directory above. What has the null id is
-- no tree that is stored.
pub record IsUnloaded (v : View) (n : List ℕ) (id : ObjectId) : Type 0 where
  pub item : Item
  pub there : item_in (v []) n ≡ Some item
  pub is_tree : is_tree_mode item.mode.value ≡ true
  pub is_id : item.id ≡ id
  pub known : is_null id ≡ false
  pub unloaded : v (n ∷ []) ≡ None

module _ (hash : HashKind) (load : ObjectId → Names) where
  -- A directory on the way to a path, which is a proper part of it, is not loaded and has this id in the one above,
  -- once that one is loaded.
  abbrev pub IsOnWay : View → Path → ObjectId → Type 0
  IsOnWay v [] id = ⊥
  IsOnWay v (n ∷ []) id = ⊥
  IsOnWay v (n ∷ c ∷ p) id = IsUnloaded v n id ⊎ IsOnWay (below (opened hash load v n) n) (c ∷ p) id

  -- what stands at the path, once each directory on the way is loaded
  abbrev pub entry_at : View → Path → Option Item
  entry_at v [] = None
  entry_at v (n ∷ []) = item_in (v []) n
  entry_at v (n ∷ c ∷ p) = if leads (item_in (v []) n) then entry_at (below (opened hash load v n) n) (c ∷ p) else None

-- a directory on the way that is not loaded has this id, where the store tells what it holds
abbrev pub MayLoad : StoreState → View → Path → ObjectId → Type 0
MayLoad state v path id = WhereLoaded state (λ load. IsOnWay state.hash load v path id)

-- each tree that was to be loaded on the way to the path can be read, where the store tells what it holds
abbrev pub LoadsAll : StoreState → View → Path → Type 0
LoadsAll state v path = (id : ObjectId) → MayLoad state v path id
    → IfSome state.content (λ content. IsReadable state.hash content id)

-- Why an edit at the path is refused: a name of the path is empty; or none is, and memory ran out, or the tree of a
-- directory on the way that was not loaded can't be.
abbrev pub EditCauses : StoreState → View → Path → EditError → Type 0
EditCauses state v path edit_error.EmptyPathComponent = has_empty_name path ≡ true
EditCauses state v path edit_error.NoMemory = has_empty_name path ≡ false
EditCauses state v path error = (has_empty_name path ≡ false) × (id : ObjectId) × MayLoad state v path id
    × LoadCauses state id error

-- whether a directory stands at the path
abbrev pub IsTreeAt : StoreState → View → Path → Bool → Type 0
IsTreeAt state v path answer = WhereLoaded state (λ load. leads (entry_at state.hash load v path) ≡ answer)

-- Why the removal of a leaf is refused: as any edit at its path, or since a directory stands there.
abbrev pub RemoveLeafCauses : StoreState → View → Path → EditError → Type 0
RemoveLeafCauses state v path edit_error.IsTree = (has_empty_name path ≡ false) × IsTreeAt state v path true
RemoveLeafCauses state v path error = EditCauses state v path error
