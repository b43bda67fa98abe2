-- What the parts of a run of the generator do.
use Rattle.std.specs.Prelude.{◌≡◌, ℕ, ◌<◌, true, false, List, length, Option, Result, Ok, Err}
use Rattle.gx_hash.specs.declared.oid.ObjectId.{ObjectId}
use Rattle.gx_store.specs.Faults.{Rose}
use Rattle.gx_store.specs.Outside.{Writes}
use Rattle.gix.specs.Held.{Held}
use Rattle.gix.specs.MadeCommit.{IsCommitOver}
use Rattle.gix.specs.declared.commit_edits.MadeCommit.{MadeCommit}
use Rattle.gx_script.specs.declared.request.CommitRequest.{CommitRequest}
use Rattle.gx_script.specs.declared.request.Request.TheVariants.{Commit}
use Rattle.gx_tool.specs.CommitForm.{commit_request}
use Rattle.gx_tool.specs.Course.{WritesFront}
use Rattle.gx_tool.specs.Generating.{IsBroken, IsLast, IsOver, Makes}
use Rattle.gx_tool.specs.Machine.{IsReply}
use Rattle.gx_tool.specs.declared.answer.Answer.TheVariants.{Id}
use Rattle.gx_tool.specs.declared.executing.ExecuteError.{ExecuteError}
use Rattle.gx_tool.specs.declared.generating.Outcome.{Outcome}
use Rattle.gx_tool.specs.declared.generating.Outcome.TheVariants as outcome
use Rattle.gx_tool.specs.declared.generating.Progress.{Progress}
use Rattle.gx_tool.specs.declared.refusal.Refusal.{Refusal}
use Rattle.gx_tool.specs.declared.reply.Reply.TheVariants.{Accepted, Refused}
use Rattle.gx_tool.specs.declared.status.Status.{Status}
use Rattle.gx_tool.specs.declared.status.Status.TheVariants.{Done, Refusals, WriteFault, NoMemory}

-- The request is accepted with the commit, or is refused.
abbrev pub IsOutcome : Held → CommitRequest → Outcome → Held → Type 0
IsOutcome old asked (outcome.Accepted made) new = IsReply old (Commit asked) (Accepted (Id made.id)) new
    × IsCommitOver old.store.hash (commit_request asked) made × (new.store.hash ≡ old.store.hash)
IsOutcome old asked outcome.Refused new = (refusal : Refusal) × IsReply old (Commit asked) (Refused refusal) new

-- what a refusal comes to, or an error that gets no reply
abbrev pub outcome_told : Result Refusal ExecuteError → Result Outcome ExecuteError
outcome_told (Ok refusal) = Ok outcome.Refused
outcome_told (Err error) = Err error

-- All commits are made, or those before the first that is refused.
pub record IsProgress (count : ℕ) (start : Held) (progress : Progress) (now : Held) : Type 0 where
  pub ids : List ObjectId
  pub held : Held
  pub makes : Makes start ids held
  pub counts : progress.count ≡ length ids
  pub is_last : IsLast start.store.hash ids progress.last
  pub over : IsOver count ids held now progress.refused

-- Some commits are made, and the next request got no reply.
pub record HasBroken (count : ℕ) (start now : Held) (error : ExecuteError) : Type 0 where
  pub ids : List ObjectId
  pub held : Held
  pub makes : Makes start ids held
  pub last : Option MadeCommit
  pub is_last : IsLast start.store.hash ids last
  pub fewer : length ids < count
  pub broken : IsBroken ids held now error

-- The lines are written, or a front of them.
abbrev pub IsTold : List ℕ → Option (List ℕ) → Option (List ℕ) → ℕ → ℕ → Progress → Status → Type 0
IsTold lines written written' faults faults' progress Done = (progress.refused ≡ false) × Writes written written' lines
IsTold lines written written' faults faults' progress Refusals = (progress.refused ≡ true)
    × Writes written written' lines
IsTold lines written written' faults faults' progress WriteFault = Rose faults faults'
    × WritesFront written written' lines
IsTold lines written written' faults faults' progress NoMemory = WritesFront written written' lines
IsTold lines written written' faults faults' progress status = ⊥
