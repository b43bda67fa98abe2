-- The form `log`.
use Rattle.std.proofs.Common.{◌≡◌, ℕ, List, Some, Ok, Err}
use Rattle.gx_store.specs.declared.error.StoreError.{StoreError}
use Rattle.gx_store.specs.declared.error.StoreError.TheVariants.{Fault, NoMemory}
use Rattle.gx_store.specs.declared.error.What.{What}
use Rattle.gix.specs.Logs.{of_store}
use Rattle.gx_tool.specs.declared.executing.ExecuteError.TheVariants as no_reply
use Rattle.gx_tool.specs.declared.refusal.Refusal.{Refusal}
use Rattle.gx_tool.specs.CallLaws.{CallLaws}
use Rattle.gx_tool.specs.LogForm.{log_call, store_tells}
use Rattle.gx_tool.proofs.CallLemmas.{Allowed, Lawful}

-- an error of the store is no refusal
pub no_refusal : (e : StoreError) (refusal : Refusal) → store_tells e ≡ Ok refusal → ⊥
no_refusal (Fault fault) refusal told = cc
no_refusal NoMemory refusal told = cc

pub store_fault : (e : StoreError) (fault : What) → store_tells e ≡ Err (no_reply.Store fault) → of_store e ≡ Some (Fault fault)
store_fault (Fault fault) other told = cc
store_fault NoMemory fault told = cc

pub log_lawful : CallLaws → (name : List ℕ) → Lawful (log_call name)
log_lawful laws name = record { lawful = laws.log name; refuses = λ e refusal told. absurd (no_refusal e refusal told); faults = store_fault }

pub log_allowed : (name : List ℕ) → Allowed (log_call name)
log_allowed name = λ settings old new e refusal valid told refuses. no_refusal e refusal told
