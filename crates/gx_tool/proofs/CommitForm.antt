-- The form `commit`.
use Rattle.std.proofs.Common.{◌≡◌, refl, Some, None, Ok, Err, List, [], ◌∷◌, ◌∙◌, ap}
use Rattle.std.specs.List.{AllByRecursion}
use Rattle.gx_hash.specs.declared.kind.HashKind.{HashKind}
use Rattle.gx_hash.specs.ObjectId.{null_id}
use Rattle.gx_store.specs.declared.error.StoreError.TheVariants.{Fault}
use Rattle.gx_store.specs.declared.error.What.{What}
use Rattle.gx_edit.specs.declared.path_edit.PathEdit.{PathEdit}
use Rattle.gx_edit.specs.declared.path_edit.PathEdit.TheVariants.{File, Link, Module, Remove}
use Rattle.gix.specs.Causes.{store_part}
use Rattle.gix.specs.CommitRequest.{HasModuleId, HaveModuleIds}
use Rattle.gix.specs.declared.error.CommitEditsError.{CommitEditsError}
use Rattle.gix.specs.declared.error.CommitEditsError.TheVariants as error
use Rattle.gx_script.specs.Commits.{IsEdit}
use Rattle.gx_script.specs.declared.request.CommitRequest.{CommitRequest as Asked}
use Rattle.gx_tool.specs.declared.executing.ExecuteError.TheVariants as no_reply
use Rattle.gx_tool.specs.declared.refusal.Refusal.{Refusal}
use Rattle.gx_tool.specs.CallLaws.{CallLaws}
use Rattle.gx_tool.specs.CommitForm.{commit_call, commit_request, commit_tells}
use Rattle.gx_tool.proofs.CallLemmas.{Allowed, Lawful}

told_refusal : (e : CommitEditsError) (refusal : Refusal) → commit_tells e ≡ Ok refusal → store_part e ≡ None
told_refusal (error.Store fault) refusal told = cc
told_refusal error.NoMemory refusal told = cc
told_refusal e refusal told = refl

told_fault : (e : CommitEditsError) (fault : What) → commit_tells e ≡ Err (no_reply.Store fault) → store_part e ≡ Some (Fault fault)
told_fault (error.Store fault) other told = cc
told_fault e fault told = cc

pub commit_lawful : CallLaws → (asked : Asked) → Lawful (commit_call asked)
commit_lawful laws asked = record { lawful = laws.commit (commit_request asked); refuses = told_refusal; faults = told_fault }

pub commit_allowed : CallLaws → (asked : Asked) → Allowed (commit_call asked)
commit_allowed laws asked = λ settings old new e refusal valid told refuses. laws.commit_admits (commit_request asked) settings old new e valid (told_refusal e refusal told) refuses

-- ---- what the call needs

module_id : (hash : HashKind) (edit : PathEdit) → IsEdit hash edit → HasModuleId edit
module_id hash (File path bytes executable) fits = tt
module_id hash (Link path bytes) fits = tt
module_id hash (Module path id) fits = λ is_null. fits.1 (is_null ∙ ap null_id fits.0.kind)
module_id hash (Remove path) fits = tt

pub have_module_ids : (hash : HashKind) (edits : List PathEdit) → AllByRecursion (IsEdit hash) edits → HaveModuleIds edits
have_module_ids hash [] fits = tt
have_module_ids hash (edit ∷ edits) fits = (module_id hash edit fits.0, have_module_ids hash edits fits.1)
