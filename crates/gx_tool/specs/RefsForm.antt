-- The form `refs`.
use Rattle.std.specs.Prelude.{◌≡◌, ℕ, List, Option, Some, None, Result, Ok, Err, codes, true}
use Rattle.gx_refs.specs.declared.reference.Reference.{Reference}
use Rattle.gix.specs.Asking.{asks}
use Rattle.gix.specs.References.{is_relative_path, references_query}
use Rattle.gix.specs.declared.reference.iter.error.IterError.{IterError}
use Rattle.gix.specs.declared.reference.iter.error.IterError.TheVariants as error
use Rattle.gx_tool.specs.declared.answer.Answer.{Answer}
use Rattle.gx_tool.specs.declared.answer.Answer.TheVariants.{References}
use Rattle.gx_tool.specs.declared.executing.ExecuteError.{ExecuteError}
use Rattle.gx_tool.specs.declared.executing.ExecuteError.TheVariants as no_reply
use Rattle.gx_tool.specs.declared.refusal.Refusal.{Refusal}
use Rattle.gx_tool.specs.declared.refusal.Refusal.TheVariants.{RelativePath}
use Rattle.gx_tool.specs.Call.{Call}

-- the prefix that is asked for; where there is none, that of all references but such as `HEAD`
abbrev pub asked_prefix : Option (List ℕ) → List ℕ
asked_prefix None = codes "refs/"
asked_prefix (Some prefix) = prefix

-- the references are the answer
abbrev pub refs_answer : List Reference → Answer
refs_answer list = References list

-- what is replied to a listing that is refused, or that it gets no reply
abbrev pub refs_tells : IterError → Result Refusal ExecuteError
refs_tells error.RelativePath = Ok RelativePath
refs_tells (error.Store fault) = Err (no_reply.Store fault)
refs_tells error.NoMemory = Err no_reply.NoMemory

-- a prefix is valid where it is a relative path
abbrev pub IsValidPrefix : Option (List ℕ) → Type 0
IsValidPrefix None = Unit {0}
IsValidPrefix (Some prefix) = is_relative_path prefix ≡ true

-- The references whose names begin with a prefix are asked for.
abbrev pub refs_call : Option (List ℕ) → Call
refs_call prefix = record {
  Made = List Reference;
  Error = IterError;
  meaning = asks (references_query (asked_prefix prefix));
  needs = λ hash. Unit {0};
  valid = λ settings state. IsValidPrefix prefix;
  answers = refs_answer;
  tells = refs_tells;
}
