-- A commit of a tree that is there.
use Rattle.std.specs.Prelude.{◌≡◌, ℕ, Bool, true, List, Option, Some, None}
use Rattle.gx_hash.specs.declared.oid.ObjectId.{ObjectId}
use Rattle.gx_object.specs.Commit.{plain_commit_bytes}
use Rattle.gx_object.specs.Field.{first_unwritable}
use Rattle.gx_object.specs.Identity.{are_writable}
use Rattle.gx_object.specs.declared.encode.Field.{Field}
use Rattle.gx_object.specs.declared.kind.Kind.{Kind}
use Rattle.gx_object.specs.declared.kind.Kind.TheVariants as kind
use Rattle.gx_object.specs.declared.signature.Signature.{Signature}
use Rattle.gx_store.specs.declared.error.StoreError.{StoreError}
use Rattle.gx_store.specs.declared.error.StoreError.TheVariants as failure
use Rattle.gix.specs.declared.commit.NewCommitError.{NewCommitError}
use Rattle.gix.specs.declared.commit.NewCommitError.TheVariants.{Unwritable, Store, NoMemory}
use Rattle.gix.specs.CommitRequest.{CommitRequest}
use Rattle.gix.specs.Writes.{Writing}

-- the request's commit over this tree, whatever the request's edits (git-commit-tree(1))
abbrev pub commit_over : ObjectId → CommitRequest → Kind × List ℕ
commit_over tree r = (kind.Commit, plain_commit_bytes tree r.parents r.author r.committer r.message)

-- whether a field of its identities can be written
abbrev pub is_writable_in : CommitRequest → Field → Bool
is_writable_in r = are_writable r.author r.committer

-- how an error of the store is told
abbrev pub not_stored : StoreError → NewCommitError
not_stored failure.NoMemory = NoMemory
not_stored (failure.Fault fault) = Store fault

-- what of an error is the store's
abbrev pub new_commit_part : NewCommitError → Option StoreError
new_commit_part (Unwritable field) = None
new_commit_part (Store fault) = Some (failure.Fault fault)
new_commit_part NoMemory = Some failure.NoMemory

-- the first field that can't be written is told, the author's before the committer's
abbrev pub NamesFirst : CommitRequest → NewCommitError → Type 0
NamesFirst r (Unwritable field) = first_unwritable (is_writable_in r) ≡ Some field
NamesFirst r e = ⊥

-- The commit is written, where both its identities can be. No reference is looked at.
abbrev pub commit_writing : ObjectId → CommitRequest → Writing NewCommitError
commit_writing tree r = record {
  object = commit_over tree r;
  may = λ hash. (field : Field) → is_writable_in r field ≡ true;
  why = λ hash e. NamesFirst r e;
  fails = new_commit_part;
}
