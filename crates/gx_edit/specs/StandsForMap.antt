-- The path map that an editor's view stands for.
use Rattle.std.specs.Prelude.{◌≡◌, ◌≢◌, ◌⊎◌, ℕ, true, false, if◌then◌else◌, List, [], ◌∷◌, ◌++◌, Option, Some, None, IsSome, Contains}
use Rattle.std.specs.List.{AllByRecursion}
use Rattle.std.specs.FinMap.{get}
use Rattle.gx_hash.specs.declared.kind.HashKind.{HashKind}
use Rattle.gx_hash.specs.declared.oid.ObjectId.{ObjectId}
use Rattle.gx_object.specs.declared.kind.Kind.{Kind}
use Rattle.gx_object.specs.declared.tree.EntryKind.TheVariants as entry_kind
use Rattle.gx_object.specs.Mode.{mode_of, is_tree_mode}
use Rattle.gx_store.specs.Content.{Content, lookup}
use Rattle.gx_edit.specs.Path.{Path, path_eq, leads_to}
use Rattle.gx_edit.specs.PathMap.{PathMap}
use Rattle.gx_edit.specs.PathList.{IsLeaf}
use Rattle.gx_edit.specs.CanonicalTree.{Represents}
use Rattle.gx_edit.specs.SharedIds.{HasIdsOf, HasNoNullId}
use Rattle.gx_edit.specs.View.{Names, View, is_null}
use Rattle.gx_edit.specs.declared.leaf.Leaf.{Leaf}
use Rattle.gx_edit.specs.declared.editor.item.Item.{Item}

-- the map is empty
abbrev pub IsNowhere : PathMap → Type 0
IsNowhere m = (q : Path) → m q ≡ None

-- what a map has at a name and below it
abbrev pub map_below : PathMap → List ℕ → PathMap
map_below m n q = m (n ∷ q)

-- a map without the leaf that stands at the name itself
abbrev pub without_leaf : PathMap → List ℕ → PathMap
without_leaf m n q = if path_eq (n ∷ []) q then None else m q

-- A tree has a path map in a content: it represents the map there, and no entry of the map's trees has the null id,
-- or an id of another kind.
pub record HasMap (hash : HashKind) (content : Content) (tree : ObjectId) (m : PathMap) : Type 0 where
  pub represents : Represents hash content tree m
  pub ids : HasIdsOf hash m
  pub own : HasNoNullId hash m

-- a leaf as the item of a directory
abbrev pub item_of : Leaf → Item
item_of leaf = record { mode = leaf.mode; id = leaf.id }

-- ---- what an item stands for, whose directory is not loaded

-- the map is one leaf, the item's
pub record IsLeafItem (item : Item) (m : PathMap) : Type 0 where
  pub leaf : Leaf
  pub is : item ≡ item_of leaf
  pub good : IsLeaf leaf
  pub here : m [] ≡ Some leaf
  pub below : (c : List ℕ) (q : Path) → m (c ∷ q) ≡ None

-- a placeholder stands for nothing; if it is a directory's, its mode is 40000
pub record IsPlaceholder (item : Item) (m : PathMap) : Type 0 where
  pub null : is_null item.id ≡ true
  pub mode : is_tree_mode item.mode.value ≡ true → item.mode.value ≡ mode_of entry_kind.Tree
  pub nowhere : IsNowhere m

-- a tree that is not loaded has the map, which is not empty
pub record IsTreeItem (hash : HashKind) (content : Content) (item : Item) (m : PathMap) : Type 0 where
  pub mode : item.mode.value ≡ mode_of entry_kind.Tree
  pub not_null : is_null item.id ≡ false
  pub has_map : HasMap hash content item.id m
  pub some : (p : Path) × IsSome (m p)

-- ---- what a view stands for

-- What the map has at a name and below it. Where there is no item, that is nothing. Where no directory is loaded, it is
-- what the item stands for. Where one is loaded, the item is a directory's, and no leaf has that name.
abbrev pub HoldsAt : HashKind → Content → Option Names → Option Item → PathMap → Type 0
HoldsAt hash content None None m = IsNowhere m
HoldsAt hash content None (Some item) m = IsLeafItem item m ⊎ IsPlaceholder item m
    ⊎ IsTreeItem hash content item m
HoldsAt hash content (Some names) None m = ⊥
HoldsAt hash content (Some names) (Some item) m = (item.mode.value ≡ mode_of entry_kind.Tree) × (m [] ≡ None)

-- A view stands for a map: the root is loaded, and each directory above a loaded one; and at each name of each of
-- them the map has what stands there.
pub record StandsForMap (hash : HashKind) (content : Content) (v : View) (m : PathMap) : Type 0 where
  pub root : IsSome (v [])
  pub closed : (d e : Path) → v d ≡ None → v (d ++ e) ≡ None
  pub no_root : m [] ≡ None
  pub holds : (d : Path) (names : Names) → v d ≡ Some names → (n : List ℕ)
      → HoldsAt hash content (v (d ++ n ∷ [])) (get names n) (λ q. m (d ++ n ∷ q))

-- the names on the map's paths are not empty and hold no slash
abbrev pub HasPlainNames : PathMap → Type 0
HasPlainNames m = (p : Path) (leaf : Leaf) → m p ≡ Some leaf
    → AllByRecursion (λ name. (name ≢ []) × (Contains name 47 → ⊥)) p

-- the first path leads to the second, and is another
abbrev pub IsAbove : Path → Path → Type 0
IsAbove q p = (leads_to q p ≡ true) × (q ≢ p)

-- what was found is found still, as it was
abbrev pub IsKept : Content → Content → Type 0
IsKept old new = (id : ObjectId) (object : Kind × List ℕ) → lookup old id ≡ Some object → lookup new id ≡ Some object
