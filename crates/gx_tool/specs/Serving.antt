-- How a store serves requests: which reply each may get, and what the repository holds then.
use Rattle.std.specs.Prelude.{◌≡◌, List, [], ◌∷◌, Ok, Err}
use Rattle.gix.specs.Held.{Held}
use Rattle.gx_script.specs.declared.request.Request.{Request}
use Rattle.gx_script.specs.declared.request.Request.TheVariants as form
use Rattle.gx_tool.specs.declared.answer.Answer.{Answer}
use Rattle.gx_tool.specs.declared.executing.ExecuteError.{ExecuteError}
use Rattle.gx_tool.specs.declared.refusal.Refusal.{Refusal}
use Rattle.gx_tool.specs.declared.reply.Reply.{Reply}
use Rattle.gx_tool.specs.declared.reply.Reply.TheVariants.{Accepted, Refused}
use Rattle.gx_tool.specs.Call.{Call}
use Rattle.gx_tool.specs.CommitForm.{commit_call}
use Rattle.gx_tool.specs.LogForm.{log_call}
use Rattle.gx_tool.specs.ReferenceForms.{delete_call, ref_call}
use Rattle.gx_tool.specs.RefsForm.{refs_call}
use Rattle.gx_tool.specs.UnservedForm.{unserved_call}

-- The call that a request asks for. (Ours; docs/SCRIPT.md.)
unfoldable pub call_of : Request → Call
call_of (form.Commit asked) = commit_call asked
call_of (form.Log name) = log_call name
call_of (form.Refs prefix) = refs_call prefix
call_of (form.Ref asked) = ref_call asked
call_of (form.Delete name expect) = delete_call name expect
call_of request = unserved_call

-- A call is accepted with this answer: it was made, and is all that changed.
pub record IsServed (c : Call) (old : Held) (answer : Answer) (new : Held) : Type 0 where
  pub made : c.Made
  pub told : answer ≡ c.answers made
  pub makes : c.meaning.makes old.settings old.store made new.store
  pub settles : new.settings ≡ c.meaning.settles made old.settings

-- A call is refused: the reply tells of an error whose cause holds, and nothing is changed.
pub record IsDeclined (c : Call) (old : Held) (refusal : Refusal) (new : Held) : Type 0 where
  pub error : c.Error
  pub told : c.tells error ≡ Ok refusal
  pub cause : c.meaning.causes old.settings old.store old.store error
  pub same : new ≡ old

-- a call is served with this reply
abbrev pub Gives : Call → Held → Reply → Held → Type 0
Gives c old (Accepted answer) new = IsServed c old answer new
Gives c old (Refused refusal) new = IsDeclined c old refusal new

-- A store may serve the request with the reply, from what the repository held before to what it then holds.
-- (Ours; docs/SCRIPT.md.)
unfoldable pub Serves : Held → Request → Reply → Held → Type 0
Serves old request reply new = Gives (call_of request) old reply new

-- A call gets no reply: for a fault of the store, which has a cause, or for lack of memory. What it leaves of the store
-- is what its meaning says, and the settings are as before.
pub record HasStopped (c : Call) (old new : Held) (error : ExecuteError) : Type 0 where
  pub failure : c.Error
  pub told : c.tells failure ≡ Err error
  pub cause : c.meaning.causes old.settings old.store new.store failure
  pub leaves : c.meaning.leaves old.settings old.store new.store failure
  pub settings : new.settings ≡ old.settings

-- A request may get no reply, for such an error.
unfoldable pub Stops : Held → Request → Held → ExecuteError → Type 0
Stops old request new error = HasStopped (call_of request) old new error

-- A store may serve these requests with these replies, one after another.
unfoldable pub ServesAll : Held → List Request → List Reply → Held → Type 0
ServesAll old [] [] new = new ≡ old
ServesAll old (request ∷ requests) (reply ∷ replies) new = (mid : Held) × Serves old request reply mid
    × ServesAll mid requests replies new
ServesAll old [] (reply ∷ replies) new = ⊥
ServesAll old (request ∷ requests) [] new = ⊥
