-- What a commit of edits starts from.
use Rattle.std.specs.Prelude.{◌≡◌, ℕ, List, [], ◌∷◌, Some, IfSome, Ok}
use Rattle.gx_hash.specs.declared.kind.HashKind.{HashKind}
use Rattle.gx_hash.specs.declared.oid.ObjectId.{ObjectId}
use Rattle.gx_hash.specs.ObjectId.{id_from_hex}
use Rattle.gx_object.specs.declared.kind.Kind.TheVariants as kind
use Rattle.gx_object.specs.declared.tree.Entry.{Entry}
use Rattle.gx_object.specs.CommitSpelling.{CommitText, SpellsCommit}
use Rattle.gx_store.specs.Content.{Content, lookup}
use Rattle.gx_edit.specs.PathMap.{PathMap, no_paths}
use Rattle.gx_edit.specs.StandsForMap.{HasMap}
use Rattle.gx_edit.specs.StoredTree.{HasEntries}
use Rattle.gix.specs.View.{View}

-- A stored commit names its tree. (Git, "Git Internals - Git Objects", "Commit Objects")
pub record HasTree (hash : HashKind) (content : Content) (commit tree : ObjectId) : Type 0 where
  pub bytes : List ℕ
  pub text : CommitText
  pub stored : lookup content commit ≡ Some (kind.Commit, bytes)
  pub spelled : SpellsCommit hash bytes text
  pub named : id_from_hex text.tree ≡ Ok tree

-- These are the entries of the tree that a stored commit names. (Git, "Git Internals - Git Objects", "Commit Objects")
pub record HasRoot (hash : HashKind) (content : Content) (commit : ObjectId) (entries : List Entry) : Type 0 where
  pub tree : ObjectId
  pub has_tree : HasTree hash content commit tree
  pub has : HasEntries hash content tree entries

-- A commit starts from the tree of its first parent, and without a parent from the empty tree: these are the entries
-- at its root. (git-commit(1); gitglossary(7), "parent")
abbrev pub IsBaseTree : View → List ObjectId → List Entry → Type 0
IsBaseTree view [] entries = entries ≡ []
IsBaseTree view (parent ∷ parents) entries =
    IfSome view.content (λ content. HasRoot view.hash content parent entries)

-- a fact of the first parent, where there is one
abbrev pub OfFirst : List ObjectId → (ObjectId → Type 0) → Type 0
OfFirst [] P = ⊥
OfFirst (parent ∷ parents) P = P parent

-- ---- bases that have a path map

-- the tree of a stored commit has the map
pub record IsMapOf (hash : HashKind) (content : Content) (commit : ObjectId) (m : PathMap) : Type 0 where
  pub tree : ObjectId
  pub has_tree : HasTree hash content commit tree
  pub has_map : HasMap hash content tree m

-- The base has a path map: without a parent that of the empty tree.
abbrev pub IsBase : View → List ObjectId → PathMap → Type 0
IsBase view [] base = base ≡ no_paths
IsBase view (parent ∷ parents) base = IfSome view.content (λ content. IsMapOf view.hash content parent base)
