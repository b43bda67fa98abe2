-- The forms that are not served yet.
use Rattle.std.specs.Prelude.{◌≡◌, Option, None, Result, Ok}
use Rattle.gix.specs.Asking.{Query, asks}
use Rattle.gx_store.specs.declared.error.StoreError.{StoreError}
use Rattle.gx_tool.specs.declared.answer.Answer.{Answer}
use Rattle.gx_tool.specs.declared.executing.ExecuteError.{ExecuteError}
use Rattle.gx_tool.specs.declared.refusal.Refusal.{Refusal}
use Rattle.gx_tool.specs.declared.refusal.Refusal.TheVariants.{Unsupported}
use Rattle.gx_tool.specs.Call.{Call}

-- a refusal is no part of a store's
abbrev pub no_fault : Refusal → Option StoreError
no_fault refusal = None

-- There is no answer but that it is not supported.
abbrev pub no_query : Query Answer Refusal
no_query = record {
  is = λ settings view answer. ⊥;
  why = λ settings view refusal. refusal ≡ Unsupported;
  reads = λ settings view part. ⊥;
  fails = no_fault;
}

-- an answer that never comes is itself
abbrev pub no_answer : Answer → Answer
no_answer answer = answer

-- the refusal is told as it is
abbrev pub told_refusal : Refusal → Result Refusal ExecuteError
told_refusal refusal = Ok refusal

-- A form that is not served is refused, and changes nothing.
abbrev pub unserved_call : Call
unserved_call = record {
  Made = Answer;
  Error = Refusal;
  meaning = asks no_query;
  needs = λ hash. Unit {0};
  valid = λ settings state. ⊥;
  answers = no_answer;
  tells = told_refusal;
}
