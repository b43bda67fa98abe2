-- A commit that was made, with its tree.
use Rattle.std.specs.Prelude.{◌≡◌, Result, Ok, Err}
use Rattle.gx_hash.specs.ObjectId.{object_id}
use Rattle.gx_hash.specs.declared.kind.HashKind.{HashKind}
use Rattle.gx_hash.specs.declared.oid.ObjectId.{ObjectId}
use Rattle.gx_object.specs.Commit.{plain_commit_bytes}
use Rattle.gx_object.specs.Kind.{kind_name}
use Rattle.gx_object.specs.declared.kind.Kind.TheVariants as kind
use Rattle.gix.specs.CommitRequest.{CommitRequest}
use Rattle.gix.specs.declared.commit_edits.MadeCommit.{MadeCommit}
use Rattle.gix.specs.declared.error.CommitEditsError.{CommitEditsError}

-- what `commit_edits` answers of it
abbrev pub made_id : Result MadeCommit CommitEditsError → Result ObjectId CommitEditsError
made_id (Ok made) = Ok made.id
made_id (Err refusal) = Err refusal

-- The id is that of the request's commit over the tree. (git-commit-tree(1))
abbrev pub IsCommitOver : HashKind → CommitRequest → MadeCommit → Type 0
IsCommitOver hash r made =
    made.id ≡ object_id hash (kind_name kind.Commit)
    (plain_commit_bytes made.tree r.parents r.author r.committer r.message)
