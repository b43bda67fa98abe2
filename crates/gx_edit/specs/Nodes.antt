-- How an editor keeps its directories: in a list, each with the places of those that are loaded in it.
use Rattle.std.specs.Prelude.{◌≡◌, ◌≢◌, ◌⊎◌, ℕ, Bool, true, false, ◌<◌, ◌≤◌, ◌+◌, if◌then◌else◌, List, [], ◌∷◌, ◌++◌, Option, Some, None, option_map, map, length, slice_get}
use Rattle.std.specs.BTreeMap.{BTreeMap}
use Rattle.std.specs.FinMap.{FinMap, get, insert, remove, from_entries}
use Rattle.std.specs.Global.{Vec}
use Rattle.gx_hash.specs.declared.kind.HashKind.{HashKind}
use Rattle.gx_hash.specs.declared.oid.ObjectId.{ObjectId}
use Rattle.gx_object.specs.Mode.{is_tree_mode}
use Rattle.gx_rules.specs.Name.{name_cmp}
use Rattle.gx_store.specs.State.{StoreState}
use Rattle.gx_edit.specs.Path.{Path}
use Rattle.gx_edit.specs.OpenTree.{LoadCauses}
use Rattle.gx_edit.specs.View.{Names, View, WhereLoaded, leads, is_null, item_in, below, with_below, names_for, opened, opened_along, removed}
use Rattle.gx_edit.specs.EditorCauses.{MayLoad, IsTreeAt, EditCauses, RemoveLeafCauses, entry_at}
use Rattle.gx_edit.specs.declared.editor.item.Item.{Item}
use Rattle.gx_edit.specs.declared.editor.nodes.Node.{Node}
use Rattle.gx_edit.specs.declared.error.EditError.{EditError}
use Rattle.gx_edit.specs.declared.error.EditError.TheVariants as edit_error

-- the entries of a tree map by the bytes of their keys
abbrev pub keyed : {X : Type 0} → List (Vec ℕ × X) → List (List ℕ × X)
keyed es = map (λ e. (e.0.items, e.1)) es

-- a tree map as the finite map that it is
abbrev pub map_in : {X : Type 0} → BTreeMap (Vec ℕ) X → FinMap name_cmp X
map_in m = from_entries (keyed m.entries)

-- a loaded directory: its names, and the places of the directories that are loaded in it
pub record Place : Type 0 where
  pub names : Names
  pub inner : FinMap name_cmp ℕ

-- a loaded directory as its maps are
abbrev pub place_of : Node → Place
place_of node = record { names = map_in node.names; inner = map_in node.inner }

-- all of them, in their order
abbrev pub places_of : List Node → List Place
places_of nodes = map place_of nodes

-- what stands at a name, where there is such a directory
abbrev pub name_at : Option Place → List ℕ → Option Item
name_at None n = None
name_at (Some place) n = get place.names n

-- where the directory of a name is loaded
abbrev pub inner_at : Option Place → List ℕ → Option ℕ
inner_at None n = None
inner_at (Some place) n = get place.inner n

-- a way that goes on where there is a place
abbrev pub onward : (ℕ → Option ℕ) → Option ℕ → Option ℕ
onward walk None = None
onward walk (Some place) = walk place

-- the place of the directory at a path below a place
abbrev pub walk : List Place → ℕ → Path → Option ℕ
walk places at [] = Some at
walk places at (n ∷ q) = onward (λ inner. walk places inner q) (inner_at (slice_get places at) n)

-- the names of the directory at a place
abbrev pub names_there : List Place → Option ℕ → Option Names
names_there places None = None
names_there places (Some at) = option_map (λ (place : Place). place.names) (slice_get places at)

-- the directories that are loaded at and below a place
abbrev pub view_at : List Place → ℕ → View
view_at places at q = names_there places (walk places at q)

-- A loaded directory stands after the one that it is loaded in, is loaded in one alone, at one name, and has a
-- directory's item there.
pub record AreLinked (places : List Place) : Type 0 where
  pub some : 0 < length places
  pub within : (at inner : ℕ) (n : List ℕ) → inner_at (slice_get places at) n ≡ Some inner
      → (at < inner) × (inner < length places)
  pub once : (at other inner : ℕ) (n m : List ℕ) → inner_at (slice_get places at) n ≡ Some inner
      → inner_at (slice_get places other) m ≡ Some inner → (at ≡ other) × (n ≡ m)
  pub trees : (at inner : ℕ) (n : List ℕ) → inner_at (slice_get places at) n ≡ Some inner
      → leads (name_at (slice_get places at) n) ≡ true

-- ---- changes

-- the directory at a place is changed, and no other
pub record Changes (old : List Place) (at : ℕ) (change : Place → Place) (new : List Place) : Type 0 where
  pub len : length new ≡ length old
  pub here : slice_get new at ≡ option_map change (slice_get old at)
  pub others : (i : ℕ) → i ≢ at → slice_get new i ≡ slice_get old i

-- the first directories are as before; more may have come
pub record Keeps (old new : List Place) : Type 0 where
  pub len : length old ≤ length new
  pub same : (i : ℕ) → i < length old → slice_get new i ≡ slice_get old i

-- the first directories are as before, all but one; more may have come
pub record KeepsOthers (old : List Place) (at : ℕ) (new : List Place) : Type 0 where
  pub len : length old ≤ length new
  pub kept : (i : ℕ) → i < length old → i ≢ at → slice_get new i ≡ slice_get old i

-- an item is put at a name, and the directory that was loaded there is forgotten
abbrev pub put : List ℕ → Item → Place → Place
put n item place = record { names = insert place.names n item; inner = remove place.inner n }

-- a name is taken away, with the directory that was loaded there
abbrev pub taken : List ℕ → Place → Place
taken n place = record { names = remove place.names n; inner = remove place.inner n }

-- A directory is loaded at a name. Where no directory's item stands there, this one comes to.
abbrev pub linked : List ℕ → ℕ → Item → Place → Place
linked n to item place = record {
  names = (if leads (get place.names n) then place.names else insert place.names n item);
  inner = insert place.inner n to;
}

-- a path is followed to a place
pub record Goes (places : List Place) (path : Path) (at : ℕ) (rest : Path) : Type 0 where
  pub front : Path
  pub walked : walk places 0 front ≡ Some at
  pub split : path ≡ front ++ rest
  pub within : at < length places

-- A path is followed as far as its directories are loaded.
pub record Follows (places : List Place) (path : Path) (at : ℕ) (rest : Path) : Type 0 where
  pub goes : Goes places path at rest
  pub stops : (n c : List ℕ) (p : Path) → rest ≡ n ∷ c ∷ p → inner_at (slice_get places at) n ≡ None

-- what a call makes of the directories, where the one at a place is all that is changed of those before
pub record Makes (state : StoreState) (old : List Place) (at : ℕ)
    (wanted : (ObjectId → Names) → View) (new : List Place) : Type 0 where
  pub links : AreLinked new
  pub len : length old ≤ length new
  pub kept : (i : ℕ) → i < length old → i ≢ at → slice_get new i ≡ slice_get old i
  pub view : WhereLoaded state (λ load. view_at new at ≡ wanted load)

-- an edit at a path, from the root on
pub record Edits (state : StoreState) (old : List Place)
    (wanted : (ObjectId → Names) → View) (new : List Place) : Type 0 where
  pub links : AreLinked new
  pub view : WhereLoaded state (λ load. view_at new 0 ≡ wanted load)

-- the tree of a directory's item: none where a leaf stands, or nothing, or a placeholder
abbrev pub tree_in : Option Item → Option ObjectId
tree_in None = None
tree_in (Some item) = if is_tree_mode item.mode.value then (if is_null item.id then None else Some item.id) else None

-- the directory is what is loaded for an item
pub record IsLoaded (state : StoreState) (item : Option Item) (place : Place) : Type 0 where
  pub none_inside : (n : List ℕ) → get place.inner n ≡ None
  pub names : WhereLoaded state (λ load. place.names ≡ names_for state.hash load item)

-- a directory was loaded to the end of the list, and nothing leads to it yet
pub record Pushes (state : StoreState) (old : List Place) (item : Option Item) (new : List Place)
    (inner : ℕ) : Type 0 where
  pub place : Place
  pub loaded : IsLoaded state item place
  pub is_last : inner ≡ length old
  pub is_more : new ≡ old ++ place ∷ []

-- a directory of this name was loaded into the one at a place
pub record Opens (state : StoreState) (old : List Place) (at : ℕ) (n : List ℕ) (new : List Place)
    (inner : ℕ) : Type 0 where
  pub is_last : inner ≡ length old
  pub len : length new ≡ length old + 1
  pub kept : (i : ℕ) → i < length old → i ≢ at → slice_get new i ≡ slice_get old i
  pub step : inner_at (slice_get new at) n ≡ Some inner
  pub none_inside : (m : List ℕ) → inner_at (slice_get new inner) m ≡ None
  pub links : AreLinked new
  pub above : WhereLoaded state (λ load. view_at new at ≡ opened state.hash load (view_at old at) n)
  pub inside : WhereLoaded state (λ load. view_at new inner ≡ below (opened state.hash load (view_at old at) n) n)

-- each directory on the path was loaded, from a place on, up to the last one
pub record Descends (state : StoreState) (old : List Place) (from : ℕ) (path : Path) (new : List Place) (at : ℕ)
    (end : List ℕ) : Type 0 where
  pub front : Path
  pub split : path ≡ front ++ end ∷ []
  pub walked : walk new from front ≡ Some at
  pub within : at < length new
  pub len : length old ≤ length new
  pub kept : (i : ℕ) → i < length old → i ≢ from → slice_get new i ≡ slice_get old i
  pub links : AreLinked new
  pub along : WhereLoaded state (λ load. view_at new from ≡ opened_along state.hash load (view_at old from) front)
  -- the last one is the first, or came since
  pub later : at ≢ from → length old ≤ at

-- ---- removals

-- each directory on the way is one in the directory above, as that is loaded
abbrev pub IsLedAlong : HashKind → (ObjectId → Names) → View → Path → Type 0
IsLedAlong hash load v [] = Unit {0}
IsLedAlong hash load v (n ∷ d) = (leads (item_in (v []) n) ≡ true)
    × IsLedAlong hash load (below (opened hash load v n) n) d

-- the way leads to the directory of the last name
pub record Leads (state : StoreState) (old : List Place) (from : ℕ) (path : Path) (new : List Place) (at : ℕ)
    (end : List ℕ) : Type 0 where
  pub way : Descends state old from path new at end
  pub led : WhereLoaded state (λ load. IsLedAlong state.hash load (view_at old from) way.front)

-- the way ends before the last name, so that nothing stands there
pub record Stops (state : StoreState) (old : List Place) (from : ℕ) (path : Path) (new : List Place) : Type 0 where
  pub makes : Makes state old from (λ load. removed state.hash load (view_at old from) path) new
  pub nothing : WhereLoaded state (λ load. entry_at state.hash load (view_at old from) path ≡ None)

-- ---- refusals

-- the tree of a directory's item is not loaded
pub record IsNotLoaded (state : StoreState) (item : Option Item) (error : EditError) : Type 0 where
  pub tree : Item
  pub there : item ≡ Some tree
  pub is_tree : is_tree_mode tree.mode.value ≡ true
  pub known : is_null tree.id ≡ false
  pub why : LoadCauses state tree.id error

-- memory ran out, or that
abbrev pub LoadRefused : StoreState → Option Item → EditError → Type 0
LoadRefused state item error = (error ≡ edit_error.NoMemory) ⊎ IsNotLoaded state item error

-- memory ran out, or the tree of a directory on the way is not loaded
abbrev pub WayRefused : StoreState → View → Path → EditError → Type 0
WayRefused state v path error = (error ≡ edit_error.NoMemory) ⊎ ((id : ObjectId) × MayLoad state v path id
    × LoadCauses state id error)

-- that, or directories are spared and one stands at the path
abbrev pub DropRefused : StoreState → Bool → View → Path → EditError → Type 0
DropRefused state spare v path error = WayRefused state v path error ⊎ ((error ≡ edit_error.IsTree)
    × (spare ≡ true) × IsTreeAt state v path true)

-- why a removal is refused that spares directories, or not
abbrev pub DropCauses : StoreState → Bool → View → Path → EditError → Type 0
DropCauses state true v path error = RemoveLeafCauses state v path error
DropCauses state false v path error = EditCauses state v path error

-- what a removal that spares directories has made sure of
abbrev pub Spares : StoreState → Bool → View → Path → Type 0
Spares state spare v path = spare ≡ true → IsTreeAt state v path false

-- ---- views below a path

-- the view from the directory at a path
abbrev pub view_in : View → Path → View
view_in v [] = v
view_in v (n ∷ d) = view_in (below v n) d

-- another view at and below a path
abbrev pub with_in : View → Path → View → View
with_in v [] w = w
with_in v (n ∷ d) w = with_below v n (with_in (below v n) d w)
