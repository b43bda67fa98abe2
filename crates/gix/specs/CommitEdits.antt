-- What a commit of edits writes, and what its refusals leave.
use Rattle.std.specs.Prelude.{◌≡◌, ◌⊎◌, ℕ, List, [], ◌∷◌, ◌++◌}
use Rattle.gx_hash.specs.declared.oid.ObjectId.{ObjectId}
use Rattle.gx_object.specs.declared.kind.Kind.{Kind}
use Rattle.gx_object.specs.declared.kind.Kind.TheVariants as kind
use Rattle.gx_store.specs.State.{StoreState, Becomes, all_stored}
use Rattle.gx_store.specs.Change.{applied, AfterFault}
use Rattle.gx_store.specs.declared.error.What.{What}
use Rattle.gx_store.specs.declared.error.What.TheVariants as what
use Rattle.gx_edit.specs.Output.{Output}
use Rattle.gix.specs.declared.settings.Settings.{Settings}
use Rattle.gix.specs.declared.error.CommitEditsError.{CommitEditsError}
use Rattle.gix.specs.declared.error.CommitEditsError.TheVariants.{Store, NoMemory}
use Rattle.gix.specs.CommitRequest.{CommitRequest}
use Rattle.gix.specs.View.{view_of}
use Rattle.gix.specs.Trees.{brought}
use Rattle.gx_refs.specs.Prepared.{Prepares, Ready}
use Rattle.gix.specs.NewCommit.{commit_id, commit_text}
use Rattle.gix.specs.Reference.{commit_terms, edits_of}
use Rattle.gix.specs.Admission.{IsAdmitted}

-- A commit brings the blobs of its edits, the trees of the directories that its edits go through, the root's always,
-- and itself, and nothing else.
abbrev pub written_objects : CommitRequest → Output → List (Kind × List ℕ)
written_objects r output = brought r output ++ (kind.Commit, commit_text r output) ∷ []

-- ---- what a call leaves

-- The commit was made: its objects are stored, the end of its reference's way is moved, and nothing else is changed.
pub record Commits (settings : Settings) (r : CommitRequest) (old : StoreState) (id : ObjectId)
    (new : StoreState) : Type 0 where
  pub output : Output
  pub admitted : IsAdmitted settings r (view_of old) output
  pub is_id : id ≡ commit_id old.hash r output
  pub ready : Ready
  pub prepared : Prepares (commit_terms settings r) old.references (edits_of r id) ready
  pub becomes : Becomes (applied ready.changes (all_stored (written_objects r output) old)) new

-- The first of the objects were stored, in the order in which each comes after all that it names, and
-- nothing else is changed.
pub record Grows (objects : List (Kind × List ℕ)) (old new : StoreState) : Type 0 where
  pub first : List (Kind × List ℕ)
  pub rest : List (Kind × List ℕ)
  pub split : objects ≡ first ++ rest
  pub becomes : Becomes (all_stored first old) new

-- A request that may be made has some first objects stored.
pub record HasBegun (settings : Settings) (r : CommitRequest) (old new : StoreState) : Type 0 where
  pub output : Output
  pub admitted : IsAdmitted settings r (view_of old) output
  pub grows : Grows (written_objects r output) old new

-- A request that may be made has all its objects stored, and a fault left each name on its reference's way, and each
-- log there, old or new.
pub record IsTornBy (settings : Settings) (r : CommitRequest) (old new : StoreState) : Type 0 where
  pub output : Output
  pub admitted : IsAdmitted settings r (view_of old) output
  pub ready : Ready
  pub prepared : Prepares (commit_terms settings r) old.references (edits_of r (commit_id old.hash r output)) ready
  pub stored : StoreState
  pub becomes : Becomes (all_stored (written_objects r output) old) stored
  pub torn : AfterFault ready.changes stored new

-- A fault of a read changes nothing; one of a write comes after some first objects, or tears the reference.
abbrev pub LeavesFault : Settings → CommitRequest → StoreState → StoreState → What → Type 0
LeavesFault settings r old new what.Write = HasBegun settings r old new ⊎ IsTornBy settings r old new
LeavesFault settings r old new fault = new ≡ old

-- What each refusal leaves. One that names a fault in the request leaves all as it was.
abbrev pub Leaves : Settings → CommitRequest → StoreState → StoreState → CommitEditsError → Type 0
Leaves settings r old new (Store fault) = LeavesFault settings r old new fault
Leaves settings r old new NoMemory = (new ≡ old) ⊎ HasBegun settings r old new
Leaves settings r old new refusal = new ≡ old
