-- Runs of the generator: which commits are made, and what is written about them.
use Rattle.std.specs.Prelude.{◌≡◌, ◌≢◌, ◌⊎◌, ℕ, ◌<◌, Bool, true, false, List, [], ◌∷◌, ◌++◌, length, Option, Some, None, codes, decimal}
use Rattle.gx_hash.specs.declared.kind.HashKind.{HashKind}
use Rattle.gx_hash.specs.declared.oid.ObjectId.{ObjectId}
use Rattle.gx_hash.specs.ObjectId.{empty_tree_id, hex_of}
use Rattle.gx_store.specs.Faults.{Rose}
use Rattle.gx_store.specs.Outside.{Writes}
use Rattle.gx_store.specs.State.{StoreState}
use Rattle.gx_store.specs.declared.error.What.{What}
use Rattle.gix.specs.Held.{Held, HeldTold}
use Rattle.gix.specs.MadeCommit.{IsCommitOver}
use Rattle.gix.specs.Repository.{held_by}
use Rattle.gix.specs.declared.commit_edits.MadeCommit.{MadeCommit}
use Rattle.gix.specs.declared.repository.Repository.{Repository}
use Rattle.gx_script.specs.declared.request.Request.TheVariants.{Commit}
use Rattle.gx_tool.specs.CommitForm.{commit_request}
use Rattle.gx_tool.specs.Course.{code}
use Rattle.gx_tool.specs.Generator.{commit_after, replies_of, requests_of}
use Rattle.gx_tool.specs.Machine.{IsReply, Run}
use Rattle.gx_tool.specs.Serving.{ServesAll, Stops}
use Rattle.gx_tool.specs.declared.executing.ExecuteError.{ExecuteError}
use Rattle.gx_tool.specs.declared.executing.ExecuteError.TheVariants as no_reply
use Rattle.gx_tool.specs.declared.refusal.Refusal.{Refusal}
use Rattle.gx_tool.specs.declared.reply.Reply.TheVariants.{Refused}
use Rattle.gx_tool.specs.declared.status.Status.{Status}
use Rattle.gx_tool.specs.declared.status.Status.TheVariants.{Done, Refusals, WriteFault, NoMemory, StoreFault}

-- ---- what is written

-- the line of the count of commits
abbrev pub commits_line : ℕ → List ℕ
commits_line count = codes "commits " ++ (decimal count ++ 10 ∷ [])

-- the line of the last commit's tree
abbrev pub root_line : ObjectId → List ℕ
root_line root = codes "root " ++ (hex_of root ++ 10 ∷ [])

-- an id in hex digits, or that there is none
abbrev pub head_text : Option ObjectId → List ℕ
head_text None = codes "none"
head_text (Some id) = hex_of id

-- the line of the last commit
abbrev pub head_line : Option ObjectId → List ℕ
head_line head = codes "head " ++ (head_text head ++ 10 ∷ [])

-- the id of the last commit, if there is one
abbrev pub last_id : Option MadeCommit → Option ObjectId
last_id None = None
last_id (Some made) = Some made.id

-- its tree, or the empty one
abbrev pub root_of : HashKind → Option MadeCommit → ObjectId
root_of hash None = empty_tree_id hash
root_of hash (Some made) = made.tree

-- Three lines tell how many commits were made, the tree of the last and its id. (Ours; docs/SCRIPT.md.)
abbrev pub summary_text : HashKind → ℕ → Option MadeCommit → List ℕ
summary_text hash count last = commits_line count ++ (root_line (root_of hash last) ++ head_line (last_id last))

-- ---- what is made

-- The last of the commits with these ids: the generator's over this tree.
pub record IsLastMade (hash : HashKind) (ids : List ObjectId) (made : MadeCommit) : Type 0 where
  pub before : List ObjectId
  pub is : ids ≡ before ++ made.id ∷ []
  pub over : IsCommitOver hash (commit_request (commit_after before)) made

-- it is so of the last commit, or there is none
abbrev pub IsLast : HashKind → List ObjectId → Option MadeCommit → Type 0
IsLast hash ids None = ids ≡ []
IsLast hash ids (Some made) = IsLastMade hash ids made

-- The generator's first requests are accepted, one after another, and these are the ids of the commits. Where the store
-- tells its state, this is a run of the repository machine.
pub record Makes (old : Held) (ids : List ObjectId) (new : Held) : Type 0 where
  pub run : ServesAll old (requests_of ids) (replies_of ids) new
  pub machine : HeldTold (λ before after. Run before (requests_of ids) (replies_of ids) after) old new

-- the request after these commits is refused
pub record IsRefused (ids : List ObjectId) (old new : Held) : Type 0 where
  pub refusal : Refusal
  pub reply : IsReply old (Commit (commit_after ids)) (Refused refusal) new

-- all commits are made, or the next one is refused
abbrev pub IsOver : ℕ → List ObjectId → Held → Held → Bool → Type 0
IsOver count ids old new false = (length ids ≡ count) × (new ≡ old)
IsOver count ids old new true = (length ids < count) × IsRefused ids old new

-- the next request got no reply, or none could be made for lack of memory
abbrev pub IsBroken : List ObjectId → Held → Held → ExecuteError → Type 0
IsBroken ids old new error = Stops old (Commit (commit_after ids)) new error
    ⊎ ((error ≡ no_reply.NoMemory) × (new ≡ old))

-- ---- how a run ends

-- a front of the bytes, but not all
pub record IsFront (front bytes : List ℕ) : Type 0 where
  pub more : List ℕ
  pub is : front ++ more ≡ bytes
  pub short : more ≢ []

-- What is there at a moment: the repository's settings and its store, what was written, where told, and the sink's
-- count of faults.
pub record Scene : Type 0 where
  pub held : Held
  pub written : Option (List ℕ)
  pub faults : ℕ

-- the scene of a repository and a sink, by what their store and sink tell and count
abbrev pub scene_of : {S O : Type 0} → (S → StoreState) → (O → Option (List ℕ)) → (O → ℕ) → Repository S → O → Scene
scene_of state written faults repository sink = record {
  held = held_by state repository;
  written = written sink;
  faults = faults sink;
}

-- How a run of the generator ends, by its status, after commits with these ids, with these bytes written of these
-- three lines, and what the repository held after the last of the commits. 0: all commits were made, and the lines
-- written. 1: the next one was refused, and the lines written. 4: a write failed within the lines. 5: memory ran out.
-- 7: the store failed at the next one, and nothing was written. (Ours; docs/SCRIPT.md.)
abbrev pub EndsSo : ℕ → Scene → Scene → List ObjectId → List ℕ → List ℕ → Held → Status → Type 0
EndsSo count start now ids lines out held Done = IsOver count ids held now.held false × (out ≡ lines)
EndsSo count start now ids lines out held Refusals = IsOver count ids held now.held true × (out ≡ lines)
EndsSo count start now ids lines out held WriteFault = ((refused : Bool) × IsOver count ids held now.held refused)
    × IsFront out lines × Rose start.faults now.faults
EndsSo count start now ids lines out held NoMemory =
    (((refused : Bool) × IsOver count ids held now.held refused) × IsFront out lines)
    ⊎ ((length ids < count) × IsBroken ids held now.held no_reply.NoMemory × (out ≡ []))
EndsSo count start now ids lines out held StoreFault = (length ids < count)
    × ((fault : What) × Stops held (Commit (commit_after ids)) now.held (no_reply.Store fault)) × (out ≡ [])
EndsSo count start now ids lines out held status = ⊥

-- A run of the generator for so many commits: those with these ids were made, and it ended so.
pub record Generates (count : ℕ) (start now : Scene) (status : Status) : Type 0 where
  pub ids : List ObjectId
  pub last : Option MadeCommit
  pub out : List ℕ
  pub held : Held
  pub makes : Makes start.held ids held
  pub is_last : IsLast start.held.store.hash ids last
  pub writes : Writes start.written now.written out
  pub ends : EndsSo count start now ids (summary_text start.held.store.hash (length ids) last) out held status

-- A run of the generator, which answers the number of its status.
pub record IsGenerated (count : ℕ) (start now : Scene) (number : ℕ) : Type 0 where
  pub status : Status
  pub is : number ≡ code status
  pub generates : Generates count start now status
