-- Canonical trees: the one way in which a path map is written as tree objects.
use Rattle.std.specs.Prelude.{◌≡◌, ◌≢◌, ◌⊎◌, ℕ, if◌then◌else◌, List, [], ◌∷◌, ◌++◌, Some, None, bytes_eq}
use Rattle.std.specs.declared.cmp.Ordering.TheVariants.{Less}
use Rattle.gx_hash.specs.declared.kind.HashKind.{HashKind}
use Rattle.gx_hash.specs.declared.oid.ObjectId.{ObjectId}
use Rattle.gx_hash.specs.ObjectId.{object_id}
use Rattle.gx_rules.specs.Name.{name_cmp}
use Rattle.gx_object.specs.declared.kind.Kind.{Kind}
use Rattle.gx_object.specs.declared.kind.Kind.TheVariants as kind
use Rattle.gx_object.specs.declared.tree.Entry.{Entry}
use Rattle.gx_object.specs.declared.tree.EntryKind.TheVariants as entry_kind
use Rattle.gx_object.specs.Kind.{kind_name}
use Rattle.gx_object.specs.Mode.{mode_of}
use Rattle.gx_object.specs.Tree.{tree_bytes}
use Rattle.gx_store.specs.Content.{Content, HoldsAll}
use Rattle.gx_edit.specs.Path.{Path, IsName}
use Rattle.gx_edit.specs.PathMap.{PathMap}
use Rattle.gx_edit.specs.declared.leaf.Leaf.{Leaf}

-- A directory in full: its entries in turn, each a leaf or a directory of its own.
pub data Directory : Type 0 where
  End : Directory
  File : List ℕ → Leaf → Directory → Directory
  Sub : List ℕ → Directory → Directory → Directory

-- the leaf at a path
abbrev pub leaf_at : Directory → PathMap
leaf_at End p = None
leaf_at (File n leaf rest) [] = None
leaf_at (File n leaf rest) (c ∷ []) = if bytes_eq n c then Some leaf else leaf_at rest (c ∷ [])
leaf_at (File n leaf rest) (c ∷ d ∷ p) = leaf_at rest (c ∷ d ∷ p)
leaf_at (Sub n inner rest) [] = None
leaf_at (Sub n inner rest) (c ∷ p) = if bytes_eq n c then leaf_at inner p else leaf_at rest (c ∷ p)

-- the first bytes sort before the second
abbrev pub IsBelow : List ℕ → List ℕ → Type 0
IsBelow a b = name_cmp a b ≡ Less

-- Each entry's sort key is above the key, and none has the name.
abbrev pub Follow : List ℕ → List ℕ → Directory → Type 0
Follow n key End = Unit {0}
Follow n key (File m leaf rest) = (n ≢ m) × IsBelow key m × Follow n key rest
Follow n key (Sub m inner rest) = (n ≢ m) × IsBelow key (m ++ 47 ∷ []) × Follow n key rest

-- A leaf is a file, a link or a submodule, and so its mode is one of theirs. (git-fast-import(1), "filemodify")
abbrev pub IsLeafMode : ℕ → Type 0
IsLeafMode mode = (mode ≡ mode_of entry_kind.Blob) ⊎ (mode ≡ mode_of entry_kind.BlobExecutable)
    ⊎ (mode ≡ mode_of entry_kind.Link) ⊎ (mode ≡ mode_of entry_kind.Commit)

-- A directory is canonical where its names are names, each stands once, entries rise by their sort keys (a directory's
-- name counts as if a slash followed it), leaves have the modes of leaves, and no directory below it is empty.
-- (git-mktree(1); git-fsck(1), "treeNotSorted", "duplicateEntries", "badFilemode")
abbrev pub IsCanonical : Directory → Type 0
IsCanonical End = Unit {0}
IsCanonical (File n leaf rest) = IsName n × Follow n n rest × IsCanonical rest × IsLeafMode leaf.mode.value
IsCanonical (Sub n inner rest) = IsName n × (inner ≢ End) × IsCanonical inner × Follow n (n ++ 47 ∷ []) rest
    × IsCanonical rest

-- a canonical directory with just the leaves of the map
pub record StandsFor (directory : Directory) (m : PathMap) : Type 0 where
  pub canonical : IsCanonical directory
  pub leaves : (p : Path) → leaf_at directory p ≡ m p

-- The entries of the tree object of a directory; a directory below stands there by the id of its own tree object.
abbrev pub entries_of : HashKind → Directory → List Entry
entries_of hash End = []
entries_of hash (File n leaf rest) = record { mode = leaf.mode; filename = n; oid = leaf.id } ∷ entries_of hash rest
entries_of hash (Sub n inner rest) = record {
  mode = record { value = mode_of entry_kind.Tree };
  filename = n;
  oid = object_id hash (kind_name kind.Tree) (tree_bytes (entries_of hash inner));
} ∷ entries_of hash rest

-- the tree object of a directory
abbrev pub tree_of : HashKind → Directory → Kind × List ℕ
tree_of hash directory = (kind.Tree, tree_bytes (entries_of hash directory))

-- the root of a directory is the id of its tree object
abbrev pub root_of : HashKind → Directory → ObjectId
root_of hash directory = object_id hash (kind_name kind.Tree) (tree_bytes (entries_of hash directory))

-- the tree objects of the directories below a directory
abbrev pub trees_below : HashKind → Directory → List (Kind × List ℕ)
trees_below hash End = []
trees_below hash (File n leaf rest) = trees_below hash rest
trees_below hash (Sub n inner rest) = (trees_below hash inner ++ tree_of hash inner ∷ []) ++ trees_below hash rest

-- all tree objects of a directory, its own last
abbrev pub trees_of : HashKind → Directory → List (Kind × List ℕ)
trees_of hash directory = trees_below hash directory ++ tree_of hash directory ∷ []

-- the entries of all trees of a directory; the entry of a directory below comes after those in it
abbrev pub entries_within : HashKind → Directory → List Entry
entries_within hash End = []
entries_within hash (File n leaf rest) =
    record { mode = leaf.mode; filename = n; oid = leaf.id } ∷ entries_within hash rest
entries_within hash (Sub n inner rest) = entries_within hash inner ++ record {
  mode = record { value = mode_of entry_kind.Tree };
  filename = n;
  oid = root_of hash inner;
} ∷ entries_within hash rest

-- A tree represents a path map in a content where it is the root of the map's canonical directory, and all trees of
-- that directory are stored. (Git, "Git Internals - Git Objects", "Tree Objects")
pub record Represents (hash : HashKind) (content : Content) (tree : ObjectId) (m : PathMap) : Type 0 where
  pub directory : Directory
  pub stands : StandsFor directory m
  pub is_root : tree ≡ root_of hash directory
  pub stored : HoldsAll hash (trees_of hash directory) content
