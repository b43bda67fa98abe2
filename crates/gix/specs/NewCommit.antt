-- The commit of a request, over its trees.
use Rattle.std.specs.Prelude.{ℕ, List}
use Rattle.gx_hash.specs.declared.kind.HashKind.{HashKind}
use Rattle.gx_hash.specs.declared.oid.ObjectId.{ObjectId}
use Rattle.gx_hash.specs.ObjectId.{object_id}
use Rattle.gx_object.specs.declared.kind.Kind.TheVariants as kind
use Rattle.gx_object.specs.Kind.{kind_name}
use Rattle.gx_object.specs.Commit.{plain_commit_bytes}
use Rattle.gx_edit.specs.Output.{Output}
use Rattle.gix.specs.CommitRequest.{CommitRequest}

-- the bytes of the commit over the root of the trees
abbrev pub commit_text : CommitRequest → Output → List ℕ
commit_text r output = plain_commit_bytes output.root r.parents r.author r.committer r.message

-- the id of that commit
abbrev pub commit_id : HashKind → CommitRequest → Output → ObjectId
commit_id hash r output = object_id hash (kind_name kind.Commit) (commit_text r output)
