-- The form `commit`.
use Rattle.std.specs.Prelude.{Result, Ok, Err}
use Rattle.gx_hash.specs.declared.oid.ObjectId.{ObjectId}
use Rattle.gix.specs.Admission.{IsValidCommit}
use Rattle.gix.specs.CommitRequest.{CommitRequest, HaveModuleIds, request_of}
use Rattle.gix.specs.Machine.{commit_edits_meaning}
use Rattle.gix.specs.declared.error.CommitEditsError.{CommitEditsError}
use Rattle.gix.specs.declared.error.CommitEditsError.TheVariants as error
use Rattle.gx_script.specs.declared.request.CommitRequest.{CommitRequest as Asked}
use Rattle.gx_tool.specs.declared.answer.Answer.{Answer}
use Rattle.gx_tool.specs.declared.answer.Answer.TheVariants.{Id}
use Rattle.gx_tool.specs.declared.executing.ExecuteError.{ExecuteError}
use Rattle.gx_tool.specs.declared.executing.ExecuteError.TheVariants as no_reply
use Rattle.gx_tool.specs.declared.refusal.Refusal.{Refusal}
use Rattle.gx_tool.specs.declared.refusal.Refusal.TheVariants.{Find, Kind, Decode, EmptyComponent, Filename, Missing, Unwritable, Cycle, Depth, MustExist, MustNotExist, OutOfDate, Conflict}
use Rattle.gx_tool.specs.Call.{Call}

-- what the call is asked with
abbrev pub commit_request : Asked → CommitRequest
commit_request asked =
    request_of asked.committer asked.author asked.name asked.message asked.parents asked.edits

-- an accepted commit is answered by its id
abbrev pub commit_answer : ObjectId → Answer
commit_answer id = Id id

-- what is replied to a commit that is refused, or that it gets no reply
abbrev pub commit_tells : CommitEditsError → Result Refusal ExecuteError
commit_tells (error.FindExistingObject id) = Ok (Find id)
commit_tells (error.ObjectKind id actual) = Ok (Kind id actual)
commit_tells (error.Decode id) = Ok (Decode id)
commit_tells (error.EmptyPathComponent path) = Ok (EmptyComponent path)
commit_tells (error.InvalidFilename filename kind id source) = Ok (Filename id kind filename)
commit_tells (error.MissingObject filename kind id) = Ok (Missing id filename)
commit_tells (error.WriteObject field) = Ok (Unwritable field)
commit_tells (error.Cycle name) = Ok (Cycle name)
commit_tells (error.DepthLimitExceeded name) = Ok (Depth name)
commit_tells (error.MustExist name) = Ok (MustExist name)
commit_tells (error.MustNotExist name actual) = Ok (MustNotExist name actual)
commit_tells (error.ReferenceOutOfDate name expected actual) = Ok (OutOfDate name expected actual)
commit_tells (error.NameConflict name other) = Ok (Conflict name other)
commit_tells (error.Store fault) = Err (no_reply.Store fault)
commit_tells error.NoMemory = Err no_reply.NoMemory

-- A commit of edits is asked for. Its submodules have to name commits.
abbrev pub commit_call : Asked → Call
commit_call asked = record {
  Made = ObjectId;
  Error = CommitEditsError;
  meaning = commit_edits_meaning (commit_request asked);
  needs = λ hash. HaveModuleIds asked.edits;
  valid = λ settings state. IsValidCommit settings (commit_request asked) state;
  answers = commit_answer;
  tells = commit_tells;
}
