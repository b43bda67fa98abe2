-- The entries of a stored tree.
use Rattle.std.specs.Prelude.{◌≡◌, ℕ, List, Some, IfSome}
use Rattle.gx_hash.specs.declared.kind.HashKind.{HashKind}
use Rattle.gx_hash.specs.declared.oid.ObjectId.{ObjectId}
use Rattle.gx_object.specs.declared.kind.Kind.TheVariants as kind
use Rattle.gx_object.specs.declared.tree.Entry.{Entry}
use Rattle.gx_object.specs.TreeSpelling.{SpellsTree}
use Rattle.gx_store.specs.Content.{Content, lookup}
use Rattle.gx_store.specs.State.{StoreState}

-- A tree is stored under the id, and these are its entries. (Git, "Git Internals - Git Objects", "Tree Objects")
pub record HasEntries (hash : HashKind) (content : Content) (tree : ObjectId) (entries : List Entry) : Type 0 where
  pub bytes : List ℕ
  pub stored : lookup content tree ≡ Some (kind.Tree, bytes)
  pub spelled : SpellsTree hash bytes entries

-- a tree is stored under the id, and has entries
pub record IsReadable (hash : HashKind) (content : Content) (tree : ObjectId) : Type 0 where
  pub entries : List Entry
  pub has : HasEntries hash content tree entries

-- the tree has these entries, where the store tells what it holds
abbrev pub TellsEntries : StoreState → ObjectId → List Entry → Type 0
TellsEntries state tree entries = IfSome state.content (λ content. HasEntries state.hash content tree entries)
