-- The forms `ref` and `delete`.
use Rattle.std.proofs.Common.{◌≡◌, refl, arith, ℕ, List, [], ◌∷◌, Option, Some, None, Result, Ok, Err}
use Rattle.gx_hash.specs.declared.kind.HashKind.{HashKind}
use Rattle.gx_object.specs.declared.signature.Signature.{Signature}
use Rattle.gx_store.specs.State.{StoreState, Becomes}
use Rattle.gx_store.specs.Kinds.{IsTargetOfKind}
use Rattle.gx_store.specs.declared.error.StoreError.TheVariants.{Fault}
use Rattle.gx_store.specs.declared.error.What.{What}
use Rattle.gx_store.specs.declared.target.Target.{Target}
use Rattle.gx_store.specs.declared.target.Target.TheVariants as target
use Rattle.gx_refs.specs.Prepared.{AreEditsOfKind}
use Rattle.gx_refs.specs.declared.edit.RefEdit.{RefEdit}
use Rattle.gx_refs.specs.declared.error.RefError.{RefError}
use Rattle.gx_refs.specs.declared.error.RefError.TheVariants as error
use Rattle.gix.specs.EditReferences.{edit_part}
use Rattle.gix.specs.Held.{Held}
use Rattle.gx_script.specs.Fields.{IsTarget}
use Rattle.gx_script.specs.declared.request.Expect.{Expect}
use Rattle.gx_script.specs.declared.request.RefRequest.{RefRequest}
use Rattle.gx_tool.specs.declared.executing.ExecuteError.TheVariants as no_reply
use Rattle.gx_tool.specs.declared.refusal.Refusal.{Refusal}
use Rattle.gx_tool.specs.Call.{Executes}
use Rattle.gx_tool.specs.CallLaws.{CallLaws}
use Rattle.gx_tool.specs.ReferenceForms.{delete_call, deletion, edit_call, edit_tells, ref_call, setting}
use Rattle.gx_tool.proofs.CallLemmas.{Allowed, Lawful}

told_refusal : (e : RefError) (refusal : Refusal) → edit_tells e ≡ Ok refusal → edit_part e ≡ None
told_refusal (error.Store fault) refusal told = cc
told_refusal error.NoMemory refusal told = cc
told_refusal e refusal told = refl

told_fault : (e : RefError) (fault : What) → edit_tells e ≡ Err (no_reply.Store fault) → edit_part e ≡ Some (Fault fault)
told_fault (error.Store fault) other told = cc
told_fault e fault told = cc

edit_lawful : CallLaws → (committer : Option Signature) (edit : RefEdit) → Lawful (edit_call committer edit)
edit_lawful laws committer edit = record { lawful = laws.edits committer (edit ∷ []); refuses = told_refusal; faults = told_fault }

edit_allowed : CallLaws → (committer : Option Signature) (edit : RefEdit) → Allowed (edit_call committer edit)
edit_allowed laws committer edit = λ settings old new e refusal valid told refuses. laws.edits_admit committer (edit ∷ []) settings old new e valid (told_refusal e refusal told) refuses

pub ref_lawful : CallLaws → (asked : RefRequest) → Lawful (ref_call asked)
ref_lawful laws asked = edit_lawful laws asked.committer (setting asked)

pub ref_allowed : CallLaws → (asked : RefRequest) → Allowed (ref_call asked)
ref_allowed laws asked = edit_allowed laws asked.committer (setting asked)

pub delete_lawful : CallLaws → (name : List ℕ) (expect : Expect) → Lawful (delete_call name expect)
delete_lawful laws name expect = edit_lawful laws None (deletion name expect)

pub delete_allowed : CallLaws → (name : List ℕ) (expect : Expect) → Allowed (delete_call name expect)
delete_allowed laws name expect = edit_allowed laws None (deletion name expect)

-- ---- what the calls need

target_kind : (hash : HashKind) (to : Target) → IsTarget hash to → IsTargetOfKind hash to
target_kind hash (target.Object id) fits = fits.kind
target_kind hash (target.Symbolic name) fits = tt

pub ref_needs : (hash : HashKind) (asked : RefRequest) → IsTarget hash asked.target → AreEditsOfKind hash (setting asked ∷ [])
ref_needs hash asked fits = (target_kind hash asked.target fits, tt)

-- ---- lack of memory before anything is asked of the repository

becomes_same : (store : StoreState) → Becomes store store
becomes_same store = record { same = refl; later = omega arith }

pub no_memory_executes : (committer : Option Signature) (edit : RefEdit) (held : Held) → Executes (edit_call committer edit) held (Err no_reply.NoMemory) held
no_memory_executes committer edit held = record {
  outcome = Err error.NoMemory;
  told = refl;
  means = record {
    ok = tt;
    settles = tt;
    leaves = becomes_same held.store;
    causes = tt;
    settings = refl;
    accepts = tt;
    refuses = λ none. cc;
  };
}
