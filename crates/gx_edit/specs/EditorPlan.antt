-- How what is written of an editor's directories is planned.
use Rattle.std.specs.Prelude.{◌≡◌, ◌≢◌, ◌⊎◌, ℕ, true, false, ◌<◌, ◌≤◌, Bool, if◌then◌else◌, List, [], ◌∷◌, ◌++◌, map, filter_map, length, Option, Some, None, option_map, slice_get, Contains}
use Rattle.std.specs.List.{AllByRecursion, flat_map}
use Rattle.std.specs.List.Sorted.{IsStrictlySortedBy, IsPermutation, IsSorted}
use Rattle.std.specs.FinMap.{FinMap, get}
use Rattle.gx_hash.specs.declared.kind.HashKind.{HashKind}
use Rattle.gx_hash.specs.declared.oid.ObjectId.{ObjectId}
use Rattle.gx_rules.specs.Name.{name_cmp}
use Rattle.gx_object.specs.declared.encode.Field.TheVariants.{FileName}
use Rattle.gx_object.specs.declared.tree.Entry.{Entry}
use Rattle.gx_object.specs.Tree.{is_writable_filename}
use Rattle.gx_edit.specs.Path.{Path}
use Rattle.gx_edit.specs.Output.{Output, SomeEntry}
use Rattle.gx_edit.specs.Planning.{planned, objects_of}
use Rattle.gx_edit.specs.EditorWriting.{KeepsRoot}
use Rattle.gx_edit.specs.Nodes.{Place, AreLinked, keyed, map_in, walk, view_at}
use Rattle.gx_edit.specs.View.{is_null}
use Rattle.gx_edit.specs.Written.{IsWritten, IsOutputOfView, entry_cmp, entry_with, tree_with, id_with}
use Rattle.gx_edit.specs.declared.editor.item.Item.{Item}
use Rattle.gx_edit.specs.declared.editor.nodes.Node.{Node}
use Rattle.gx_edit.specs.declared.editor.plan.Planned.{Planned}
use Rattle.gx_edit.specs.declared.error.EditError.{EditError}
use Rattle.gx_edit.specs.declared.error.EditError.TheVariants.{WriteObject, NoMemory}
use Rattle.gx_edit.specs.declared.output.PlannedTree.{PlannedTree}

-- ---- what the root leads to

-- the root leads to this place
abbrev pub IsReached : List Place → ℕ → Type 0
IsReached places i = (d : Path) × (walk places 0 d ≡ Some i)

-- each place that a directory leads to is one of so many
abbrev pub AreWithin : FinMap name_cmp ℕ → ℕ → Type 0
AreWithin inner bound = (n : List ℕ) (i : ℕ) → get inner n ≡ Some i → i < bound

-- the places that a directory leads to are marked, and no others come to be
pub record Marks (inner : FinMap name_cmp ℕ) (old new : List Bool) : Type 0 where
  pub len : length new ≡ length old
  pub kept : (i : ℕ) → slice_get old i ≡ Some true → slice_get new i ≡ Some true
  pub marked : (n : List ℕ) (i : ℕ) → get inner n ≡ Some i → slice_get new i ≡ Some true
  pub sound : (i : ℕ) → slice_get new i ≡ Some true
      → (slice_get old i ≡ Some true) ⊎ ((n : List ℕ) × (get inner n ≡ Some i))

-- just the places that the root leads to are marked
pub record TellsReached (places : List Place) (marks : List Bool) : Type 0 where
  pub len : length marks ≡ length places
  pub sound : (i : ℕ) → slice_get marks i ≡ Some true → IsReached places i
  pub all : (i : ℕ) → IsReached places i → slice_get marks i ≡ Some true

-- ---- the rows of a directory

-- the id that is planned of a directory, none where nothing is written of it
abbrev pub id_done : Option (Option ObjectId) → Option ObjectId
id_done None = None
id_done (Some id) = id

-- the id that is written of an item
abbrev pub id_for : Item → Option ℕ → List (Option ObjectId) → Option ObjectId
id_for item None done = if is_null item.id then None else Some item.id
id_for item (Some place) done = id_done (slice_get done place)

-- the entry that is written of a name
abbrev pub row_for : FinMap name_cmp ℕ → List (Option ObjectId) → List ℕ × Item → Option Entry
row_for inner done x = option_map (entry_with x.0 x.1) (id_for x.1 (get inner x.0) done)

-- the entry, where there is one
abbrev pub option_list : Option Entry → List Entry
option_list None = []
option_list (Some entry) = entry ∷ []

-- the entries that are written of a directory, in the order of its names
abbrev pub rows_by_name : Node → List (Option ObjectId) → List Entry
rows_by_name node done = filter_map (row_for (map_in node.inner) done) (keyed node.names.entries)

-- the names of a directory, in their order
abbrev pub names_in : Node → List (List ℕ)
names_in node = map (λ e. e.0) (keyed node.names.entries)

-- these are the entries, in the order of a tree
pub record AreRows (node : Node) (done : List (Option ObjectId)) (rows : List Entry) : Type 0 where
  pub ordered : IsStrictlySortedBy name_cmp (names_in node)
  pub moved : IsPermutation (rows_by_name node done) rows
  pub sorted : IsSorted entry_cmp rows

-- ---- what is planned

-- the id of a tree with these entries, none where there are none
abbrev pub id_if : HashKind → List Entry → Option ObjectId
id_if hash [] = None
id_if hash (entry ∷ entries) = Some (id_with hash (entry ∷ entries))

-- the tree with these entries is planned
abbrev pub planned_with : HashKind → List Entry → PlannedTree
planned_with hash rows = planned hash (tree_with rows)

-- a tree with these entries came to what was planned
pub record PlansTree (hash : HashKind) (rows : List Entry) (old new : Planned) : Type 0 where
  pub trees : new.trees.items ≡ old.trees.items ++ planned_with hash rows ∷ []
  pub entries : new.entries.items ≡ old.entries.items ++ rows
  pub done : new.done.items ≡ old.done.items

-- a tree with these entries came to it, if there are any
abbrev pub PlansRows : HashKind → List Entry → Planned → Planned → Type 0
PlansRows hash [] old new = new ≡ old
PlansRows hash (row ∷ rows) old new = PlansTree hash (row ∷ rows) old new

-- places in falling order
abbrev pub Falls : List ℕ → Type 0
Falls [] = Unit {0}
Falls (i ∷ is) = AllByRecursion (λ j. j < i) is × Falls is

-- What is planned from a place on: the entries of each directory there that the root leads to, and those that have
-- trees, the last one first.
pub record IsPlannedFrom (hash : HashKind) (places : List Place) (k : ℕ) (listed : ℕ → List Entry)
    (order : List ℕ) : Type 0 where
  pub written : (i : ℕ) → k ≤ i → IsReached places i → IsWritten hash (view_at places i) (listed i)
  pub each : AllByRecursion (λ i. IsReached places i × ((i ≡ 0) ⊎ (listed i ≢ []))) order
  pub from : AllByRecursion (λ i. k ≤ i) order
  pub falls : Falls order
  pub all : (i : ℕ) → k ≤ i → IsReached places i → Contains order i ⊎ ((i ≢ 0) × (listed i ≡ []))

-- So much is planned: the trees of the directories from a place on, in their order, the entries in them, and the id
-- of each directory that has a tree.
pub record IsPlanned (hash : HashKind) (places : List Place) (k : ℕ) (so_far : Planned) : Type 0 where
  pub listed : ℕ → List Entry
  pub order : List ℕ
  pub plan : IsPlannedFrom hash places k listed order
  pub trees : so_far.trees.items ≡ map (λ i. planned_with hash (listed i)) order
  pub entries : so_far.entries.items ≡ flat_map listed order
  pub len : length so_far.done.items ≡ length places
  pub done : (i : ℕ) → k ≤ i → IsReached places i → slice_get so_far.done.items i ≡ Some (id_if hash (listed i))

-- ---- the root

-- what is planned, once the root's tree comes to it
abbrev pub output_with : HashKind → Planned → List Entry → Output
output_with hash so_far rows = record {
  hash = hash;
  trees = objects_of (so_far.trees.items ++ planned_with hash rows ∷ []);
  entries = so_far.entries.items ++ rows;
  root = id_with hash rows;
}

-- Why it is refused: a name in it can't be spelled. Out of memory needs no cause.
abbrev pub Misspells : Output → EditError → Type 0
Misspells output (WriteObject field) =
    (field ≡ FileName) × SomeEntry output (λ entry. is_writable_filename entry.filename ≡ false)
Misspells output NoMemory = Unit {0}
Misspells output _ = ⊥

-- All but the root is planned, and the entries that are written of the root.
pub record IsRootPlanned (hash : HashKind) (places : List Place) (so_far : Planned) (rows : List Entry) : Type 0 where
  pub below : IsPlanned hash places 1 so_far
  pub written : IsWritten hash (view_at places 0) rows

-- a plan of what is written, and the places of the directories that are loaded once it is: the root's alone
pub record IsRewrite (hash : HashKind) (places : List Place) (out : Output) (new : List Place) : Type 0 where
  pub output : IsOutputOfView hash (view_at places 0) out
  pub links : AreLinked new
  pub root : KeepsRoot hash (view_at places 0) (view_at new 0)
