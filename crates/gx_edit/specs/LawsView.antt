-- Laws of an editor's view: what it stands for, and what is written of it.
use Rattle.std.specs.Prelude.{◌≡◌, ◌⊎◌, ℕ, true, false, List, [], ◌∷◌, ◌++◌, Some, IsSome, Contains}
use Rattle.std.specs.List.{AllByRecursion}
use Rattle.gx_hash.specs.declared.kind.HashKind.{HashKind}
use Rattle.gx_hash.specs.declared.oid.ObjectId.{ObjectId}
use Rattle.gx_object.specs.declared.kind.Kind.{Kind}
use Rattle.gx_object.specs.declared.tree.Entry.{Entry}
use Rattle.gx_object.specs.declared.tree.EntryKind.TheVariants as entry_kind
use Rattle.gx_object.specs.Mode.{mode_of}
use Rattle.gx_object.specs.Tree.{is_writable_filename}
use Rattle.gx_store.specs.Content.{Content, HoldsAll, Adds, AreApart, IsStored, id_of}
use Rattle.gx_edit.specs.Path.{Path, IsName, components}
use Rattle.gx_edit.specs.StoredTree.{HasEntries}
use Rattle.gx_edit.specs.PathMap.{PathMap, no_paths, put, dropped, edited, path_of}
use Rattle.gx_edit.specs.PathList.{IsLeaf, has_empty_name}
use Rattle.gx_edit.specs.SharedIds.{HasIdsOf}
use Rattle.gx_edit.specs.CanonicalTree.{Directory, StandsFor, Represents, entries_of, root_of, tree_of, trees_of}
use Rattle.gx_edit.specs.EditorCauses.{IsOnWay}
use Rattle.gx_edit.specs.Output.{Output}
use Rattle.gx_edit.specs.View.{Names, View, IsLoad, names_of, only, opened, upserted, removed}
use Rattle.gx_edit.specs.StandsForMap.{StandsForMap, HasMap, HasPlainNames, IsAbove, IsKept, item_of, without_leaf}
use Rattle.gx_edit.specs.ViewOfEdits.{edited_view, PutsOwnId, LeadsToEdit}
use Rattle.gx_edit.specs.Written.{IsWritten, IsWrittenAt, IsOutputOfView, inside, id_with}
use Rattle.gx_edit.specs.declared.leaf.Leaf.{Leaf}
use Rattle.gx_edit.specs.declared.path_edit.PathEdit.{PathEdit}

-- What is stored can be loaded.
abbrev pub LoadExists : Type 0
LoadExists = (hash : HashKind) (content : Content) → (load : ObjectId → Names) × IsLoad hash content load

-- ---- what a view stands for

-- A view of a directory without entries stands for the map without paths.
abbrev pub EmptyStands : Type 0
EmptyStands = (hash : HashKind) (content : Content) → StandsForMap hash content (only (names_of [])) no_paths

-- The entries of a tree that has a map are a view that stands for it.
abbrev pub ReadStands : Type 0
ReadStands = (hash : HashKind) (content : Content) (tree : ObjectId) (entries : List Entry) (m : PathMap)
    → HasEntries hash content tree entries → HasMap hash content tree m
    → StandsForMap hash content (only (names_of entries)) m

-- Where a directory is loaded, a leaf of its name is gone, and the map is else as before.
abbrev pub OpenedStands : Type 0
OpenedStands = (hash : HashKind) (content : Content) (load : ObjectId → Names) (v : View) (m : PathMap) (n : List ℕ)
    → IsLoad hash content load → StandsForMap hash content v m
    → StandsForMap hash content (opened hash load v n) (without_leaf m n)

-- A leaf that is put into the view is put into the map.
abbrev pub UpsertedStands : Type 0
UpsertedStands = (hash : HashKind) (content : Content) (load : ObjectId → Names) (v : View) (m : PathMap)
    (n : List ℕ) (p : Path) (leaf : Leaf) → IsLoad hash content load → IsLeaf leaf
    → StandsForMap hash content v m
    → StandsForMap hash content (upserted hash load v (n ∷ p) (item_of leaf)) (put m (n ∷ p) leaf)

-- A path that is removed from the view is dropped from the map.
abbrev pub RemovedStands : Type 0
RemovedStands = (hash : HashKind) (content : Content) (load : ObjectId → Names) (v : View) (m : PathMap)
    (n : List ℕ) (p : Path) → IsLoad hash content load → StandsForMap hash content v m
    → StandsForMap hash content (removed hash load v (n ∷ p)) (dropped m (n ∷ p))

-- Where a leaf is put, no directory comes to be loaded but those that lead to its path.
abbrev pub UpsertedLoads : Type 0
UpsertedLoads = (hash : HashKind) (load : ObjectId → Names) (v : View) (p : Path) (leaf : Leaf) (q : Path)
    → IsSome (upserted hash load v p (item_of leaf) q) → IsSome (v q) ⊎ IsAbove q p

-- Where a path is removed, no directory comes to be loaded but those that lead to it.
abbrev pub RemovedLoads : Type 0
RemovedLoads = (hash : HashKind) (load : ObjectId → Names) (v : View) (p q : Path)
    → IsSome (removed hash load v p q) → IsSome (v q) ⊎ IsAbove q p

-- Edits of the view are edits of the map.
abbrev pub EditedStands : Type 0
EditedStands = (hash : HashKind) (content : Content) (load : ObjectId → Names) (v : View) (m : PathMap)
    (edits : List PathEdit) → IsLoad hash content load → AllByRecursion (PutsOwnId hash) edits
    → StandsForMap hash content v m → StandsForMap hash content (edited_view hash load v edits) (edited hash m edits)

-- Where edits are made, no directory comes to be loaded but those that lead to one of their paths.
abbrev pub EditedLoads : Type 0
EditedLoads = (hash : HashKind) (load : ObjectId → Names) (v : View) (edits : List PathEdit) (q : Path)
    → IsSome (edited_view hash load v edits q) → IsSome (v q) ⊎ LeadsToEdit edits q

-- A view stands for its map still where what is stored only grew.
abbrev pub GrownStands : Type 0
GrownStands = (hash : HashKind) (old new : Content) (v : View) (m : PathMap) → IsKept old new
    → StandsForMap hash old v m → StandsForMap hash new v m

-- The view of a loaded directory stands for what the map has below it.
abbrev pub InsideStands : Type 0
InsideStands = (hash : HashKind) (content : Content) (v : View) (m : PathMap) (d : Path)
    → StandsForMap hash content v m → IsSome (v d) → StandsForMap hash content (inside v d) (λ q. m (d ++ q))

-- Where a view stands for a map, each tree that is loaded on the way to a path has a map.
abbrev pub LoadedHasMap : Type 0
LoadedHasMap = (hash : HashKind) (content : Content) (load : ObjectId → Names) (v : View) (m : PathMap) (path : Path)
    (id : ObjectId) → IsLoad hash content load → StandsForMap hash content v m → IsOnWay hash load v path id
    → (inner : PathMap) × HasMap hash content id inner

-- ---- what is written of a view

-- One list of entries is written of a view.
abbrev pub WrittenOnce : Type 0
WrittenOnce = (hash : HashKind) (v : View) (a b : List Entry) → IsWritten hash v a → IsWritten hash v b → a ≡ b

-- What is written of a view that stands for a map are the entries of the map's directory.
abbrev pub WrittenEntries : Type 0
WrittenEntries = (hash : HashKind) (content : Content) (v : View) (m : PathMap) (entries : List Entry)
    (directory : Directory) → StandsForMap hash content v m → IsWritten hash v entries → StandsFor directory m
    → entries ≡ entries_of hash directory

-- What is written of a directory are the entries of the one that stands for the map below its path, and its tree is
-- one of the map's.
abbrev pub WrittenInside : Type 0
WrittenInside = (hash : HashKind) (content : Content) (v : View) (m : PathMap) (p : Path) (entries : List Entry)
    (directory : Directory) → StandsForMap hash content v m → IsWrittenAt hash v p entries → StandsFor directory m
    → (inner : Directory) × StandsFor inner (λ q. m (p ++ q)) × (entries ≡ entries_of hash inner)
    × Contains (trees_of hash directory) (tree_of hash inner)

-- A leaf of the map stands at the entry's name in the directory at the path, and has the entry's mode and id.
pub record IsLeafOf (m : PathMap) (p : Path) (entry : Entry) : Type 0 where
  pub leaf : Leaf
  pub there : m (p ++ entry.filename ∷ []) ≡ Some leaf
  pub mode : entry.mode ≡ leaf.mode
  pub id : entry.oid ≡ leaf.id

-- The entry is that of a directory in the one at the path: the map has a leaf below it, and its tree is among those
-- that are written, or is stored.
pub record IsTreeOf (hash : HashKind) (content : Content) (output : Output) (m : PathMap) (p : Path)
    (entry : Entry) : Type 0 where
  pub mode : entry.mode.value ≡ mode_of entry_kind.Tree
  pub name : List ℕ
  pub rest : Path
  pub leaf : Leaf
  pub some : m (p ++ entry.filename ∷ name ∷ rest) ≡ Some leaf
  pub held : ((tree : Kind × List ℕ) × Contains output.trees tree × (entry.oid ≡ id_of hash tree))
      ⊎ IsStored content entry.oid

-- Each entry that is written of a view that stands for a map is that of a leaf of the map, or of a directory whose tree
-- is written or stored.
abbrev pub WrittenEntriesStand : Type 0
WrittenEntriesStand = (hash : HashKind) (content : Content) (v : View) (m : PathMap) (output : Output)
    → StandsForMap hash content v m → IsOutputOfView hash v output
    → AllByRecursion (λ entry. (p : Path) × (IsLeafOf m p entry ⊎ IsTreeOf hash content output m p entry))
    output.entries

-- Where nothing is loaded below the root of a tree that has a map, the tree is written as it is.
abbrev pub WrittenAsRead : Type 0
WrittenAsRead = (hash : HashKind) (content : Content) (tree : ObjectId) (m : PathMap) (directory : Directory)
    → HasMap hash content tree m → StandsFor directory m
    → IsWritten hash (only (names_of (entries_of hash directory))) (entries_of hash directory)

-- Where the names in what is written are names that trees can spell, the map has a directory.
abbrev pub WrittenDirectory : Type 0
WrittenDirectory = (hash : HashKind) (content : Content) (v : View) (m : PathMap) (output : Output)
    → StandsForMap hash content v m → IsOutputOfView hash v output
    → AllByRecursion (λ (entry : Entry). IsName entry.filename) output.entries
    → (directory : Directory) × StandsFor directory m

-- Where the names on the map's paths are plain, and all that is written can be spelled, the map has a directory.
abbrev pub WrittenPlainDirectory : Type 0
WrittenPlainDirectory = (hash : HashKind) (content : Content) (v : View) (m : PathMap) (output : Output)
    → StandsForMap hash content v m → IsOutputOfView hash v output → HasPlainNames m
    → AllByRecursion (λ (entry : Entry). is_writable_filename entry.filename ≡ true) output.entries
    → (directory : Directory) × StandsFor directory m

-- The names on the paths of a map that a tree represents are plain.
abbrev pub RepresentedIsPlain : Type 0
RepresentedIsPlain = (hash : HashKind) (content : Content) (tree : ObjectId) (m : PathMap)
    → Represents hash content tree m → HasPlainNames m

-- The names on a map's paths stay plain where edits are made whose paths have no empty name.
abbrev pub EditedIsPlain : Type 0
EditedIsPlain = (hash : HashKind) (m : PathMap) (edits : List PathEdit) → HasPlainNames m
    → AllByRecursion (λ (edit : PathEdit). has_empty_name (components (path_of edit)) ≡ false) edits
    → HasPlainNames (edited hash m edits)

-- What is written of a view that stands for a map has the map's root, and each of its trees is one of the map's.
abbrev pub WrittenRoot : Type 0
WrittenRoot = (hash : HashKind) (content : Content) (v : View) (m : PathMap) (output : Output) (directory : Directory)
    → StandsForMap hash content v m → IsOutputOfView hash v output → StandsFor directory m
    → (output.root ≡ root_of hash directory)
    × AllByRecursion (λ tree. Contains (trees_of hash directory) tree) output.trees

-- Once the trees are stored, and what was stored is kept, the root represents the map.
abbrev pub WrittenRepresents : Type 0
WrittenRepresents = (hash : HashKind) (old new : Content) (v : View) (m : PathMap) (output : Output)
    (directory : Directory) → StandsForMap hash old v m → IsOutputOfView hash v output → StandsFor directory m
    → IsKept old new → HoldsAll hash output.trees new → Represents hash new output.root m

-- Where objects are added, the trees among them, no two different ones share an id, and none has the null id, the root
-- has the map, if the ids of its leaves are of the kind.
abbrev pub WrittenHasMap : Type 0
WrittenHasMap = (hash : HashKind) (old new : Content) (v : View) (m : PathMap) (output : Output)
    (directory : Directory) (objects : List (Kind × List ℕ)) → StandsForMap hash old v m
    → IsOutputOfView hash v output → StandsFor directory m → AreApart hash old objects → Adds hash objects old new
    → AllByRecursion (Contains objects) output.trees → HasIdsOf hash m → HasMap hash new output.root m

-- A view of the entries that were written stands for the map, once their tree has it.
abbrev pub RewrittenStands : Type 0
RewrittenStands = (hash : HashKind) (old new : Content) (v : View) (m : PathMap) (entries : List Entry)
    → StandsForMap hash old v m → IsWritten hash v entries → HasMap hash new (id_with hash entries) m
    → StandsForMap hash new (only (names_of entries)) m
