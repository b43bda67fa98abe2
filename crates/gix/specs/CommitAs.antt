-- A commit of a tree that is there, to which a reference is moved.
use Rattle.std.specs.Prelude.{◌≡◌, ◌⊎◌, ℕ, true, List, [], ◌∷◌, Option, Some, None}
use Rattle.gx_hash.specs.declared.kind.HashKind.{HashKind}
use Rattle.gx_hash.specs.declared.oid.ObjectId.{ObjectId}
use Rattle.gx_object.specs.Field.{first_unwritable}
use Rattle.gx_object.specs.declared.encode.Field.{Field}
use Rattle.gx_refs.specs.EditCauses.{AreMade, EditRefusal, IsEditFault}
use Rattle.gx_refs.specs.Prepared.{Prepares, Ready}
use Rattle.gx_refs.specs.declared.error.RefError.{RefError}
use Rattle.gx_refs.specs.declared.error.RefError.TheVariants as ref_error
use Rattle.gx_store.specs.Change.{AfterFault, applied}
use Rattle.gx_store.specs.Content.{id_of, with_object}
use Rattle.gx_store.specs.State.{RefState, StoreState, Becomes, HasCause, all_stored}
use Rattle.gx_store.specs.declared.error.StoreError.{StoreError}
use Rattle.gx_store.specs.declared.error.StoreError.TheVariants as failure
use Rattle.gix.specs.declared.commit.CommitError.{CommitError}
use Rattle.gix.specs.declared.commit.CommitError.TheVariants.{Unwritable, ReferenceEdit, Store, NoMemory}
use Rattle.gix.specs.declared.settings.Settings.{Settings}
use Rattle.gix.specs.CommitOverTree.{commit_over, is_writable_in}
use Rattle.gix.specs.CommitRequest.{CommitRequest}
use Rattle.gix.specs.Meaning.{Meaning}
use Rattle.gix.specs.Reference.{commit_terms, edits_of}
use Rattle.gix.specs.View.{State}

-- how an error of the store is told
abbrev pub not_stored : StoreError → CommitError
not_stored failure.NoMemory = NoMemory
not_stored (failure.Fault fault) = Store fault

-- how it is told that the edit of the reference is refused
abbrev pub not_moved : RefError → CommitError
not_moved (ref_error.Store fault) = Store fault
not_moved ref_error.NoMemory = NoMemory
not_moved refusal = ReferenceEdit refusal

-- what of an error is the store's
abbrev pub commit_part : CommitError → Option StoreError
commit_part (Store fault) = Some (failure.Fault fault)
commit_part NoMemory = Some failure.NoMemory
commit_part e = None

-- the id of the request's commit over the tree
abbrev pub id_over : HashKind → ObjectId → CommitRequest → ObjectId
id_over hash tree r = id_of hash (commit_over tree r)

-- each field of both identities can be written
abbrev pub HasWritable : CommitRequest → Type 0
HasWritable r = (field : Field) → is_writable_in r field ≡ true

-- the edit that lets the end of the reference's chain name the commit is prepared
abbrev pub IsPrepared : Settings → ObjectId → CommitRequest → StoreState → Ready → Type 0
IsPrepared settings tree r old ready =
    Prepares (commit_terms settings r) old.references (edits_of r (id_over old.hash tree r)) ready

-- the state with the commit stored
abbrev pub with_commit : ObjectId → CommitRequest → StoreState → StoreState
with_commit tree r old = all_stored (commit_over tree r ∷ []) old

-- The commit is stored under its id, the end of its reference's chain names it, and nothing else is changed.
pub record CommitsTree (settings : Settings) (tree : ObjectId) (r : CommitRequest) (old : StoreState) (id : ObjectId)
    (new : StoreState) : Type 0 where
  pub writable : HasWritable r
  pub is_id : id ≡ id_over old.hash tree r
  pub ready : Ready
  pub prepared : IsPrepared settings tree r old ready
  pub becomes : Becomes (applied ready.changes (with_commit tree r old)) new

-- The commit is stored, and its reference is not moved.
pub record IsNotMoved (settings : Settings) (tree : ObjectId) (r : CommitRequest) (old new : StoreState)
    : Type 0 where
  pub writable : HasWritable r
  pub ready : Ready
  pub prepared : IsPrepared settings tree r old ready
  pub becomes : Becomes (with_commit tree r old) new

-- The commit is stored, and a fault left each name on its reference's way, and each log there, old or new.
pub record IsTornAt (settings : Settings) (tree : ObjectId) (r : CommitRequest) (old new : StoreState) : Type 0 where
  pub writable : HasWritable r
  pub ready : Ready
  pub prepared : IsPrepared settings tree r old ready
  pub stored : StoreState
  pub becomes : Becomes (with_commit tree r old) stored
  pub torn : AfterFault ready.changes stored new

-- What an error leaves: a refusal all as it was; a fault the same but for its count, or a torn reference; lack of
-- memory the same, or the commit stored.
abbrev pub LeavesCommit : Settings → ObjectId → CommitRequest → StoreState → StoreState → CommitError → Type 0
LeavesCommit settings tree r old new (Store fault) = Becomes old new ⊎ IsTornAt settings tree r old new
LeavesCommit settings tree r old new NoMemory = Becomes old new ⊎ IsNotMoved settings tree r old new
LeavesCommit settings tree r old new e = new ≡ old

-- Why the machine refuses it: the first field that can't be written, or else the edit of its reference is refused.
abbrev pub CommitRefusal : Settings → ObjectId → CommitRequest → HashKind → Option RefState → CommitError → Type 0
CommitRefusal settings tree r hash told (Unwritable field) = first_unwritable (is_writable_in r) ≡ Some field
CommitRefusal settings tree r hash told (ReferenceEdit refusal) =
    HasWritable r × EditRefusal (commit_terms settings r) told (edits_of r (id_over hash tree r)) refusal
CommitRefusal settings tree r hash told e = ⊥

-- Why an error came: a refusal for its cause, and a fault at what the edit of the reference reads, or at a write, which
-- is counted. Lack of memory needs no cause.
abbrev pub CommitCauses : Settings → ObjectId → CommitRequest → StoreState → StoreState → CommitError → Type 0
CommitCauses settings tree r old new (Store fault) =
    IsEditFault (commit_terms settings r) old (edits_of r (id_over old.hash tree r)) fault ⊎ HasCause old new fault
CommitCauses settings tree r old new NoMemory = Unit {0}
CommitCauses settings tree r old new e = CommitRefusal settings tree r old.hash old.references e

-- A commit of the tree is accepted: the content gains it where its id is absent, its reference's end names it with the
-- lines of logs that are due, and nothing else is changed. (git-commit-tree(1), git-update-ref(1))
pub record AcceptsCommit (settings : Settings) (tree : ObjectId) (r : CommitRequest) (old : State) (id : ObjectId)
    (new : State) : Type 0 where
  pub writable : HasWritable r
  pub is_id : id ≡ id_over old.hash tree r
  pub references : AreMade (commit_terms settings r) (edits_of r id) old.references new.references
  pub same : new ≡ record old {
    content = with_object (id_over old.hash tree r) (commit_over tree r) old.content;
    references = new.references;
  }

-- What a commit of the tree means, of this request without edits.
abbrev pub commit_as_meaning : ObjectId → CommitRequest → Meaning ObjectId CommitError
commit_as_meaning tree r = record {
  fails = commit_part;
  settles = λ id settings. settings;
  makes = λ settings old id new. CommitsTree settings tree r old id new;
  leaves = λ settings old new e. LeavesCommit settings tree r old new e;
  causes = λ settings old new e. CommitCauses settings tree r old new e;
  accepts = λ settings old id new. AcceptsCommit settings tree r old id new;
  refuses = λ settings old e new. (new ≡ old)
      × CommitRefusal settings tree r old.hash (Some old.references) e;
}
