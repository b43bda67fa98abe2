-- What it takes for two path maps to have one root.
use Rattle.std.specs.Prelude.{◌≡◌, ◌≢◌, ℕ, List, Some, Contains}
use Rattle.std.specs.List.{AllByRecursion}
use Rattle.gx_hash.specs.declared.kind.HashKind.{HashKind}
use Rattle.gx_hash.specs.HashKind.{kind_of}
use Rattle.gx_hash.specs.ObjectId.{bytes_of, id_from_bytes, null_id}
use Rattle.gx_object.specs.declared.tree.Entry.{Entry}
use Rattle.gx_object.specs.declared.kind.Kind.{Kind}
use Rattle.gx_store.specs.Content.{id_of}
use Rattle.gx_edit.specs.Path.{Path}
use Rattle.gx_edit.specs.PathMap.{PathMap}
use Rattle.gx_edit.specs.CanonicalTree.{Directory, StandsFor, entries_within}
use Rattle.gx_edit.specs.declared.leaf.Leaf.{Leaf}

-- each leaf's id has as many bytes as ids of the kind have
abbrev pub HasIdsOf : HashKind → PathMap → Type 0
HasIdsOf hash m = (p : Path) (leaf : Leaf) → m p ≡ Some leaf → id_from_bytes hash (bytes_of leaf.id) ≡ Some leaf.id

-- No entry of the trees of the map has the null id. (git-fsck(1), "nullSha1")
abbrev pub HasNoNullId : HashKind → PathMap → Type 0
HasNoNullId hash m = (directory : Directory) → StandsFor directory m
    → AllByRecursion (λ (entry : Entry). entry.oid ≢ null_id (kind_of entry.oid)) (entries_within hash directory)

-- An object of the first list and a different one of the second have one id. Git rests on this not coming about.
-- (hash-function-transition, "Background")
pub record ShareAnId (hash : HashKind) (objects others : List (Kind × List ℕ)) : Type 0 where
  pub one : Kind × List ℕ
  pub other : Kind × List ℕ
  pub among : Contains objects one
  pub among_others : Contains others other
  pub apart : one ≢ other
  pub same_id : id_of hash one ≡ id_of hash other
