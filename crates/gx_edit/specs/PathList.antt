-- Path maps as lists: the paths as they are written, in byte order, each with its leaf.
use Rattle.std.specs.Prelude.{◌≡◌, ◌≢◌, ℕ, Bool, true, false, ◌==◌, if◌then◌else◌, List, [], ◌∷◌, Some, None, IsSome, IsTrue, Contains, bytes_eq, map}
use Rattle.std.specs.List.{AllByRecursion, list_any}
use Rattle.std.specs.List.Sorted.{IsStrictlySortedBy}
use Rattle.gx_hash.specs.declared.oid.ObjectId.{ObjectId}
use Rattle.gx_hash.specs.ObjectId.{null_id}
use Rattle.gx_hash.specs.HashKind.{kind_of}
use Rattle.gx_object.specs.declared.tree.EntryKind.{EntryKind}
use Rattle.gx_object.specs.Mode.{mode_of}
use Rattle.gx_rules.specs.Name.{name_cmp}
use Rattle.gx_edit.specs.Path.{Path, components, path_eq, leads_to}
use Rattle.gx_edit.specs.PathMap.{PathMap}
use Rattle.gx_edit.specs.CanonicalTree.{IsLeafMode}
use Rattle.gx_edit.specs.declared.leaf.Leaf.{Leaf}
use Rattle.gx_edit.specs.declared.error.EditError.{EditError}
use Rattle.gx_edit.specs.declared.error.EditError.TheVariants as edit_error

-- written paths, each with the leaf that stands there
abbrev pub PathList : Type 0
PathList = List (List ℕ × Leaf)

-- The map that such a list is: the leaf at a path is that of the text with these components.
abbrev pub map_of : PathList → PathMap
map_of [] q = None
map_of (row ∷ rows) q = if path_eq (components row.0) q then Some row.1 else map_of rows q

-- the leaf of an entry of this kind with this id
abbrev pub leaf_of : EntryKind → ObjectId → Leaf
leaf_of kind id = record { mode = record { value = mode_of kind }; id = id }

-- A path of a map has names, and each is neither empty nor holds a slash. It may hold a zero byte, which only a tree
-- that is written refuses.
abbrev pub IsWhole : Path → Type 0
IsWhole p = (p ≢ []) × AllByRecursion (λ name. (name ≢ []) × (Contains name 47 → ⊥)) p

-- A leaf has the mode of a file, a link or a submodule, and an id that is not null.
-- (git-fsck(1), "badFilemode", "nullSha1")
pub record IsLeaf (leaf : Leaf) : Type 0 where
  pub mode : IsLeafMode leaf.mode.value
  pub id : leaf.id ≢ null_id (kind_of leaf.id)

-- What every path map keeps: its paths are whole, leaves are leaves, and none stands below another, since a name is a
-- leaf or a directory and never both.
pub record IsPathMap (m : PathMap) : Type 0 where
  pub whole : (p : Path) (leaf : Leaf) → m p ≡ Some leaf → IsWhole p
  pub leaves : (p : Path) (leaf : Leaf) → m p ≡ Some leaf → IsLeaf leaf
  pub apart : (p q : Path) → IsSome (m p) → IsSome (m q) → IsTrue (leads_to p q) → p ≡ q

-- the written paths rise in the order of their bytes
abbrev pub IsRising : PathList → Type 0
IsRising rows = IsStrictlySortedBy name_cmp (map (λ row. row.0) rows)

-- A path of the map holds a zero byte. No tree can spell that, since a zero byte ends a name there. (Git, "Git
-- Internals - Git Objects", "Tree Objects")
abbrev pub has_zero : PathList → Bool
has_zero paths = list_any (λ row. list_any (λ b. b == 0) row.0) paths

-- a component of the path is empty
abbrev pub has_empty_name : Path → Bool
has_empty_name p = list_any (bytes_eq []) p

-- Why an edit of a path map is refused: a component is empty, or none is and there is no memory.
abbrev pub Refused : Path → EditError → Type 0
Refused p edit_error.EmptyPathComponent = has_empty_name p ≡ true
Refused p edit_error.NoMemory = has_empty_name p ≡ false
Refused p _ = ⊥
