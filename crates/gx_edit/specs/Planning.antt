-- How the trees of a path map are planned before any is written.
use Rattle.std.specs.Prelude.{◌≡◌, ℕ, Bool, false, ◌≤◌, ◌<◌, ◌+◌, ◌-◌, List, [], ◌∷◌, ◌++◌, map, drop, length, bytes_eq}
use Rattle.std.specs.List.{prefix_len, AllByRecursion}
use Rattle.gx_hash.specs.declared.kind.HashKind.{HashKind}
use Rattle.gx_hash.specs.declared.oid.ObjectId.{ObjectId}
use Rattle.gx_object.specs.declared.kind.Kind.{Kind}
use Rattle.gx_object.specs.declared.kind.Kind.TheVariants as object_kind
use Rattle.gx_object.specs.declared.tree.Entry.{Entry}
use Rattle.gx_store.specs.Content.{id_of}
use Rattle.gx_edit.specs.Path.{Path, components}
use Rattle.gx_edit.specs.PathList.{PathList}
use Rattle.gx_edit.specs.CanonicalTree.{Directory, root_of, trees_of, entries_within}
use Rattle.gx_edit.specs.CanonicalTree.Directory.{End, File, Sub}
use Rattle.gx_edit.specs.declared.leaf.Leaf.{Leaf}
use Rattle.gx_edit.specs.declared.path_map.entries.PathEntry.{PathEntry}
use Rattle.gx_edit.specs.declared.writing.groups.Row.{Row}
use Rattle.gx_edit.specs.declared.output.PlannedTree.{PlannedTree}
use Rattle.gx_edit.specs.declared.writing.plan.Plan.{Plan}

-- ---- the leaves of a directory, in turn

-- the row of a path below the directory of this name
abbrev pub under : List ℕ → Path × Leaf → Path × Leaf
under n row = (n ∷ row.0, row.1)

-- each leaf with its path, in the order of the entries
abbrev pub leaves_of : Directory → List (Path × Leaf)
leaves_of End = []
leaves_of (File n leaf rest) = (n ∷ [], leaf) ∷ leaves_of rest
leaves_of (Sub n inner rest) = map (under n) (leaves_of inner) ++ leaves_of rest

-- ---- the rows of a map, below a directory whose path and slash take their first bytes

-- one row, by the names of its path that come after those bytes
abbrev pub row_at : ℕ → Row → Path × Leaf
row_at at r = (components (drop at r.path.items), r.leaf)

-- all rows so
abbrev pub rows_at : ℕ → List Row → List (Path × Leaf)
rows_at at rs = map (row_at at) rs

-- the rows as a path list
abbrev pub texts_of : List Row → PathList
texts_of rs = map (λ r. (r.path.items, r.leaf)) rs

-- an entry of a map as a row of its list
abbrev pub shown : PathEntry → List ℕ × Leaf
shown e = (e.path.now, record { mode = e.mode; id = e.id })

-- each path is at least so long
abbrev pub Reach : ℕ → List Row → Type 0
Reach at = AllByRecursion (λ r. at ≤ length r.path.items)

-- how many bytes of paths are left, and how many rows
abbrev pub load : ℕ → List Row → ℕ
load at [] = 0
load at (r ∷ rs) = 1 + (length r.path.items - at) + load at rs

-- the path goes through the directory n
abbrev pub goes_into : List ℕ → Path → Bool
goes_into n [] = false
goes_into n (c ∷ []) = false
goes_into n (c ∷ d ∷ p) = bytes_eq c n

-- how many rows from the first on go into n
abbrev pub run : List ℕ → List (Path × Leaf) → ℕ
run n = prefix_len (λ r. goes_into n r.0)

-- the rows at the front that go into the directory of this name, and those after them
pub record IsFrontGroup (at : ℕ) (rs : List Row) (name : List ℕ) (group after : List Row) : Type 0 where
  pub some : 0 < length group
  pub counted : run name (rows_at at rs) ≡ length group
  pub split : rows_at at rs ≡ map (under name) (rows_at (at + length name + 1) group) ++ rows_at at after
  pub reach : Reach (at + length name + 1) group
  pub reach_after : Reach at after
  pub lighter : load (at + length name + 1) group + load at after < load at rs

-- ---- what is planned

-- trees with their ids, and the entries in them
pub record Made : Type 0 where
  pub trees : List PlannedTree
  pub entries : List Entry

-- what a plan in code has made
abbrev pub made : Plan → Made
made plan = record { trees = plan.trees.items; entries = plan.entries.items }

-- the planned tree of an object
abbrev pub planned : HashKind → Kind × List ℕ → PlannedTree
planned hash tree = record { id = id_of hash tree; bytes = tree.1 }

-- one tree more
abbrev pub with_tree : PlannedTree → Made → Made
with_tree tree m = record { trees = m.trees ++ tree ∷ []; entries = m.entries }

-- one entry more
abbrev pub with_entry : Entry → Made → Made
with_entry entry m = record { trees = m.trees; entries = m.entries ++ entry ∷ [] }

-- each tree has its id
abbrev pub ArePlanned : HashKind → List PlannedTree → Type 0
ArePlanned hash trees = AllByRecursion (λ tree. tree.id ≡ id_of hash (object_kind.Tree, tree.bytes)) trees

-- planned trees as the objects that are stored
abbrev pub objects_of : List PlannedTree → List (Kind × List ℕ)
objects_of trees = map (λ tree. (object_kind.Tree, tree.bytes)) trees

-- The plan of a directory has its trees, children first, each with its id, and the entries of them all.
pub record IsPlan (hash : HashKind) (directory : Directory) (plan : Plan) (root : ObjectId) : Type 0 where
  pub trees : plan.trees.items ≡ map (planned hash) (trees_of hash directory)
  pub entries : plan.entries.items ≡ entries_within hash directory
  pub is_root : root ≡ root_of hash directory
