-- A request for a commit of edits.
use Rattle.std.specs.Prelude.{◌≢◌, ℕ, List}
use Rattle.std.specs.List.{AllByRecursion}
use Rattle.gx_hash.specs.declared.oid.ObjectId.{ObjectId}
use Rattle.gx_hash.specs.HashKind.{kind_of}
use Rattle.gx_hash.specs.ObjectId.{null_id}
use Rattle.gx_object.specs.declared.signature.Signature.{Signature}
use Rattle.gx_edit.specs.declared.path_edit.PathEdit.{PathEdit}
use Rattle.gx_edit.specs.declared.path_edit.PathEdit.TheVariants.{File, Link, Module, Remove}
use Rattle.gix.specs.declared.request.Request.{Request}

-- what a commit is asked for with
pub record CommitRequest : Type 0 where
  pub committer : Signature
  pub author : Signature
  pub reference : List ℕ
  pub message : List ℕ
  pub parents : List ObjectId
  pub edits : List PathEdit

-- the request of these parts, in the order in which `commit_edits` takes them
abbrev pub request_of : Signature → Signature → List ℕ → List ℕ → List ObjectId → List PathEdit → CommitRequest
request_of committer author reference message parents edits =
    record {
      committer = committer;
      author = author;
      reference = reference;
      message = message;
      parents =
          parents;
      edits = edits;
    }

-- the request that is handed from stage to stage
abbrev pub asked : Request → CommitRequest
asked request =
    request_of request.committer.now request.author.now request.reference.now request.message.now request.parents.now
    request.edits.now

-- A submodule names a commit, which the null id does not. (git-fsck(1), "nullSha1")
abbrev pub HasModuleId : PathEdit → Type 0
HasModuleId (File path bytes executable) = Unit {0}
HasModuleId (Link path bytes) = Unit {0}
HasModuleId (Module path id) = id ≢ null_id (kind_of id)
HasModuleId (Remove path) = Unit {0}

-- so it is with each of the edits
abbrev pub HaveModuleIds : List PathEdit → Type 0
HaveModuleIds edits = AllByRecursion HasModuleId edits
