-- The call that a request asks for, and how its outcome is replied.
use Rattle.std.specs.Prelude.{◌≡◌, Result, Ok, Err}
use Rattle.gx_hash.specs.declared.kind.HashKind.{HashKind}
use Rattle.gix.specs.declared.settings.Settings.{Settings}
use Rattle.gix.specs.Held.{Held}
use Rattle.gix.specs.Meaning.{Meaning, Means}
use Rattle.gix.specs.View.{State}
use Rattle.gx_tool.specs.declared.executing.ExecuteError.{ExecuteError}
use Rattle.gx_tool.specs.declared.refusal.Refusal.{Refusal}
use Rattle.gx_tool.specs.declared.answer.Answer.{Answer}
use Rattle.gx_tool.specs.declared.reply.Reply.{Reply}
use Rattle.gx_tool.specs.declared.reply.Reply.TheVariants.{Accepted, Refused}

-- A call of the repository.
pub record Call : Type 1 where
  pub Made : Type 0
  pub Error : Type 0
  pub meaning : Meaning Made Error
  -- what it needs of the request, where ids are of this kind
  pub needs : HashKind → Type 0
  -- in which states it is sure to be accepted
  pub valid : Settings → State → Type 0
  -- what is replied to Ok
  pub answers : Made → Answer
  -- what is replied to an error, or that it gets no reply
  pub tells : Error → Result Refusal ExecuteError

-- A refusal is a reply. A fault of the store and lack of memory get none.
abbrev pub refused : Result Refusal ExecuteError → Result Reply ExecuteError
refused (Ok refusal) = Ok (Refused refusal)
refused (Err error) = Err error

-- the reply to an outcome, or that it gets none
abbrev pub reply_by : {A E : Type 0} → (A → Answer) → (E → Result Refusal ExecuteError) → Result A E
    → Result Reply ExecuteError
reply_by answers tells (Ok made) = Ok (Accepted (answers made))
reply_by answers tells (Err error) = refused (tells error)

-- The call was made, and this is what its outcome gets for a reply, or that it gets none.
pub record Executes (c : Call) (old : Held) (given : Result Reply ExecuteError) (new : Held) : Type 0 where
  pub outcome : Result c.Made c.Error
  pub told : given ≡ reply_by c.answers c.tells outcome
  pub means : Means c.meaning old outcome new
