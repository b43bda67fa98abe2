-- The form `log`.
use Rattle.std.specs.Prelude.{ℕ, List, Option, Result, Err}
use Rattle.gx_store.specs.declared.error.StoreError.{StoreError}
use Rattle.gx_store.specs.declared.error.StoreError.TheVariants.{Fault, NoMemory}
use Rattle.gx_store.specs.declared.log_line.LogLine.{LogLine}
use Rattle.gix.specs.Asking.{asks}
use Rattle.gix.specs.Logs.{log_query}
use Rattle.gx_tool.specs.declared.answer.Answer.{Answer}
use Rattle.gx_tool.specs.declared.answer.Answer.TheVariants.{Log}
use Rattle.gx_tool.specs.declared.executing.ExecuteError.{ExecuteError}
use Rattle.gx_tool.specs.declared.executing.ExecuteError.TheVariants as no_reply
use Rattle.gx_tool.specs.declared.refusal.Refusal.{Refusal}
use Rattle.gx_tool.specs.Call.{Call}

-- the lines are the answer
abbrev pub log_answer : Option (List LogLine) → Answer
log_answer lines = Log lines

-- an error of the store gets no reply
abbrev pub store_tells : StoreError → Result Refusal ExecuteError
store_tells (Fault fault) = Err (no_reply.Store fault)
store_tells NoMemory = Err no_reply.NoMemory

-- The log of a name is asked for, which is never refused.
abbrev pub log_call : List ℕ → Call
log_call name = record {
  Made = Option (List LogLine);
  Error = StoreError;
  meaning = asks (log_query name);
  needs = λ hash. Unit {0};
  valid = λ settings state. Unit {0};
  answers = log_answer;
  tells = store_tells;
}
