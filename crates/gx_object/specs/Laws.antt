-- What holds of objects' bytes, for proofs above to cite. Each is also the contract of a function of the module `laws`;
-- the proofs are in the files below.
pub mod CommitFields
pub mod CommitPlace
pub mod EntryCuts
pub mod LineLemmas
pub mod Octal
pub mod OneCommit
pub mod Splits
pub mod TreeFronts
pub mod Unfolding
pub mod WrittenCommits
pub mod WrittenIdentities
pub mod WrittenTrees
use Rattle.std.specs.Prelude.{◌≡◌, true, ℕ, List, All}
use Rattle.std.specs.List.{list_all}
use Rattle.gx_hash.specs.declared.kind.HashKind.{HashKind}
use Rattle.gx_object.specs.declared.commit.Commit.{Commit}
use Rattle.gx_object.specs.declared.encode.Field.{Field}
use Rattle.gx_object.specs.declared.tree.Entry.{Entry}
use Rattle.gx_object.specs.Commit.{commit_bytes, is_writable_commit, is_writable_encoding, is_writable_header}
use Rattle.gx_object.specs.CommitSpelling.{CommitText, SpellsCommit}
use Rattle.gx_object.specs.Identity.{are_writable}
use Rattle.gx_object.specs.Tree.{tree_bytes}
use Rattle.gx_object.specs.TreeSpelling.{SpellsTree, HasSpelling}
use Rattle.gx_object.specs.WrittenText.{written_commit, CanWriteCommit}
use Rattle.gx_object.specs.Laws.CommitFields as fields
use Rattle.gx_object.specs.Laws.OneCommit as commits
use Rattle.gx_object.specs.Laws.TreeFronts as trees
use Rattle.gx_object.specs.Laws.WrittenCommits as written_commits
use Rattle.gx_object.specs.Laws.WrittenTrees as written_trees

-- bytes spell one tree at most
pub tree_once : (hash : HashKind) (bytes : List ℕ) (xs ys : List Entry) → SpellsTree hash bytes xs
    → SpellsTree hash bytes ys → xs ≡ ys
tree_once = trees.tree_once

-- what is written of a tree spells it
pub written_tree : (hash : HashKind) (entries : List Entry) → All (HasSpelling hash) entries
    → SpellsTree hash (tree_bytes entries) entries
written_tree = written_trees.written_tree

-- bytes spell one commit at most
pub one_commit : (hash : HashKind) (bytes : List ℕ) (a b : CommitText) → SpellsCommit hash bytes a
    → SpellsCommit hash bytes b → a ≡ b
one_commit = commits.one_commit

-- what is written of a commit spells it
pub commit_spelled : (hash : HashKind) (c : Commit) → CanWriteCommit hash c
    → SpellsCommit hash (commit_bytes c) (written_commit c)
commit_spelled = written_commits.commit_spelled

-- a commit can be written where its identities, its encoding and its headers can
pub all_writable : (c : Commit) → ((field : Field) → are_writable c.author c.committer field ≡ true)
    → is_writable_encoding c.encoding ≡ true
    → list_all is_writable_header c.extra_headers ≡ true → (field : Field) → is_writable_commit c field ≡ true
all_writable = fields.all_writable
