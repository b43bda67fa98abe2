-- The repository machine, where commits are concerned: which answer a request may get, and what the repository is then.
use Rattle.std.specs.Prelude.{◌≡◌, Contains}
use Rattle.std.specs.List.{AllByRecursion}
use Rattle.gx_hash.specs.declared.kind.HashKind.{HashKind}
use Rattle.gx_hash.specs.declared.oid.ObjectId.{ObjectId}
use Rattle.gx_store.specs.Content.{HoldsAll, Adds, AreApart}
use Rattle.gx_edit.specs.PathMap.{PathMap, edited}
use Rattle.gx_edit.specs.CanonicalTree.{Directory, StandsFor, Represents, root_of, trees_of}
use Rattle.gx_edit.specs.Output.{Output}
use Rattle.gix.specs.declared.settings.Settings.{Settings}
use Rattle.gix.specs.declared.error.CommitEditsError.{CommitEditsError}
use Rattle.gix.specs.CommitRequest.{CommitRequest}
use Rattle.gix.specs.View.{State, whole}
use Rattle.gix.specs.Base.{IsBase}
use Rattle.gx_refs.specs.EditCauses.{AreMade}
use Rattle.gix.specs.Reference.{commit_terms, edits_of}
use Rattle.gix.specs.Admission.{IsAdmitted}
use Rattle.gix.specs.Causes.{Cause, CommitEditsCauses, store_part}
use Rattle.gix.specs.CommitEdits.{Commits, Leaves, written_objects}
use Rattle.gix.specs.NewCommit.{commit_id}
use Rattle.gix.specs.Meaning.{Meaning}

-- An output is that of a map: a canonical directory stands for the map, the output's root is that of the directory, and
-- each tree of the output is one of the directory's.
pub record IsWrittenOf (hash : HashKind) (output : Output) (m : PathMap) : Type 0 where
  pub directory : Directory
  pub stands : StandsFor directory m
  pub is_root : output.root ≡ root_of hash directory
  pub trees : AllByRecursion (Contains (trees_of hash directory)) output.trees

-- A commit is accepted: it may be made, and its id is that of the commit over the root of the trees that its edits make
-- of its base. The content gains the blobs of its edits, those trees and the commit, each where its id is absent, and
-- nothing else. The end of its reference's way comes to name the commit, each log on the way gets a line where one is
-- due, and no other reference or log is changed. Where no two different objects share an id, and none has the null id,
-- all of these objects are stored. Where the base has a path map, the trees are canonical ones of what the edits make
-- of that map; and so, where no two objects share an id, the commit's tree represents it. (git-commit-tree(1),
-- git-update-ref(1), git-config(1) "core.logAllRefUpdates")
pub record Accepts (settings : Settings) (r : CommitRequest) (old : State) (id : ObjectId) (new : State) : Type 0 where
  pub output : Output
  pub admitted : IsAdmitted settings r (whole old) output
  pub is_id : id ≡ commit_id old.hash r output
  pub hash : new.hash ≡ old.hash
  pub adds : Adds old.hash (written_objects r output) old.content new.content
  pub stored : AreApart old.hash old.content (written_objects r output)
      → HoldsAll old.hash (written_objects r output) new.content
  pub written : (base : PathMap) → IsBase (whole old) r.parents base
      → IsWrittenOf old.hash output (edited old.hash base r.edits)
  pub represents : (base : PathMap) → IsBase (whole old) r.parents base
      → AreApart old.hash old.content (written_objects r output)
      → Represents old.hash new.content output.root (edited old.hash base r.edits)
  pub references : AreMade (commit_terms settings r) (edits_of r id) old.references new.references

-- A commit is refused: the cause of the refusal holds, and nothing is changed.
pub record Refuses (settings : Settings) (r : CommitRequest) (old : State) (refusal : CommitEditsError)
    (new : State) : Type 0 where
  pub cause : Cause settings r (whole old) refusal
  pub same : new ≡ old

-- What a commit of edits means: with it only the store changes.
abbrev pub commit_edits_meaning : CommitRequest → Meaning ObjectId CommitEditsError
commit_edits_meaning r = record {
  fails = store_part;
  settles = λ id settings. settings;
  makes = λ settings old id new. Commits settings r old id new;
  leaves = λ settings old new e. Leaves settings r old new e;
  causes = λ settings old new e. CommitEditsCauses settings r old new e;
  accepts = λ settings old id new. Accepts settings r old id new;
  refuses = λ settings old e new. Refuses settings r old e new;
}
