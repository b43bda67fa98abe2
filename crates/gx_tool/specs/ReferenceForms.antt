-- The forms `ref` and `delete`, which edit one reference.
use Rattle.std.specs.Prelude.{◌≡◌, ℕ, false, List, [], ◌∷◌, Option, Some, None, Result, Ok, Err}
use Rattle.gx_object.specs.declared.signature.Signature.{Signature}
use Rattle.gx_refs.specs.EditCauses.{MayBeMade}
use Rattle.gx_refs.specs.Prepared.{AreEditsOfKind}
use Rattle.gx_refs.specs.declared.edit.Change.TheVariants.{Update, Delete}
use Rattle.gx_refs.specs.declared.edit.PreviousValue.{PreviousValue}
use Rattle.gx_refs.specs.declared.edit.PreviousValue.TheVariants as previous
use Rattle.gx_refs.specs.declared.edit.RefEdit.{RefEdit}
use Rattle.gx_refs.specs.declared.edit.RefLog.TheVariants.{AndReference}
use Rattle.gx_refs.specs.declared.error.RefError.{RefError}
use Rattle.gx_refs.specs.declared.error.RefError.TheVariants as error
use Rattle.gix.specs.EditReferences.{edit_references_meaning, terms_in}
use Rattle.gx_script.specs.declared.request.Expect.{Expect}
use Rattle.gx_script.specs.declared.request.Expect.TheVariants as expect
use Rattle.gx_script.specs.declared.request.RefRequest.{RefRequest}
use Rattle.gx_tool.specs.declared.answer.Answer.{Answer}
use Rattle.gx_tool.specs.declared.answer.Answer.TheVariants.{Name}
use Rattle.gx_tool.specs.declared.executing.ExecuteError.{ExecuteError}
use Rattle.gx_tool.specs.declared.executing.ExecuteError.TheVariants as no_reply
use Rattle.gx_tool.specs.declared.refusal.Refusal.{Refusal}
use Rattle.gx_tool.specs.declared.refusal.Refusal.TheVariants.{Cycle, Depth, MustExist, MustNotExist, OutOfDate, Conflict, Duplicate, NoCommitter, Unwritable, BadName}
use Rattle.gx_tool.specs.Call.{Call}

-- what a request expects, as an edit expects it
abbrev pub expected : Expect → PreviousValue
expected expect.Any = previous.Any
expected expect.Exists = previous.MustExist
expected expect.Absent = previous.MustNotExist
expected (expect.Match target) = previous.MustExistAndMatch target
expected (expect.MatchOrAbsent target) = previous.ExistingMustMatch target

-- The edit that sets a reference: of the name itself, with its log, which the message is for.
abbrev pub setting : RefRequest → RefEdit
setting asked = record {
  change = Update (record { mode = AndReference; force_create_reflog = false; message = asked.message })
      (expected asked.expect) asked.target;
  name = asked.name;
  deref = false;
}

-- The edit that deletes a reference: of the name itself, with its log.
abbrev pub deletion : List ℕ → Expect → RefEdit
deletion name expect = record { change = Delete (expected expect) AndReference; name = name; deref = false }

-- an edit that was made is answered by the name that was given
abbrev pub edit_answer : List ℕ → List RefEdit → Answer
edit_answer name made = Name name

-- what is replied to an edit that is refused, or that it gets no reply
abbrev pub edit_tells : RefError → Result Refusal ExecuteError
edit_tells (error.Cycle name) = Ok (Cycle name)
edit_tells (error.DepthLimitExceeded name) = Ok (Depth name)
edit_tells (error.MustExist name) = Ok (MustExist name)
edit_tells (error.MustNotExist name actual) = Ok (MustNotExist name actual)
edit_tells (error.ReferenceOutOfDate name expected actual) = Ok (OutOfDate name expected actual)
edit_tells (error.NameConflict name with) = Ok (Conflict name with)
edit_tells (error.DuplicateEdit name) = Ok (Duplicate name)
edit_tells error.MissingCommitter = Ok NoCommitter
edit_tells (error.Unwritable field) = Ok (Unwritable field)
edit_tells (error.NameValidation reason) = Ok BadName
edit_tells (error.Store fault) = Err (no_reply.Store fault)
edit_tells error.NoMemory = Err no_reply.NoMemory

-- One edit is asked for, which this committer signs. The id that it sets has to be of the kind of the repository.
abbrev pub edit_call : Option Signature → RefEdit → Call
edit_call committer edit = record {
  Made = List RefEdit;
  Error = RefError;
  meaning = edit_references_meaning committer (edit ∷ []);
  needs = λ hash. AreEditsOfKind hash (edit ∷ []);
  valid = λ settings state. MayBeMade (terms_in settings committer) (Some state.references) (edit ∷ []);
  answers = edit_answer edit.name;
  tells = edit_tells;
}

-- A reference is to be set.
abbrev pub ref_call : RefRequest → Call
ref_call asked = edit_call asked.committer (setting asked)

-- A reference is to be deleted. A deletion writes no line, so nobody signs it.
abbrev pub delete_call : List ℕ → Expect → Call
delete_call name expect = edit_call None (deletion name expect)
