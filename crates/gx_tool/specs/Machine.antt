-- The repository machine: which reply a request may get, and what the repository is then.
use Rattle.std.specs.Prelude.{◌≡◌, List, [], ◌∷◌, Ok}
use Rattle.gix.specs.Held.{Held, Whole, HeldTold}
use Rattle.gx_script.specs.declared.request.Request.{Request}
use Rattle.gx_tool.specs.declared.answer.Answer.{Answer}
use Rattle.gx_tool.specs.declared.refusal.Refusal.{Refusal}
use Rattle.gx_tool.specs.declared.reply.Reply.{Reply}
use Rattle.gx_tool.specs.declared.reply.Reply.TheVariants.{Accepted, Refused}
use Rattle.gx_tool.specs.Call.{Call}
use Rattle.gx_tool.specs.Serving.{call_of, Serves}

-- The machine accepts the call with this answer.
pub record Accepting (c : Call) (old : Whole) (answer : Answer) (new : Whole) : Type 0 where
  pub made : c.Made
  pub told : answer ≡ c.answers made
  pub accepts : c.meaning.accepts old.settings old.state made new.state
  pub settles : new.settings ≡ c.meaning.settles made old.settings

-- The machine refuses the call, the reply tells why, and the settings are as before.
pub record Refusing (c : Call) (old : Whole) (refusal : Refusal) (new : Whole) : Type 0 where
  pub error : c.Error
  pub told : c.tells error ≡ Ok refusal
  pub refuses : c.meaning.refuses old.settings old.state error new.state
  pub settings : new.settings ≡ old.settings

-- the machine may answer the call so
abbrev pub Takes : Call → Whole → Reply → Whole → Type 0
Takes c old (Accepted answer) new = Accepting c old answer new
Takes c old (Refused refusal) new = Refusing c old refusal new

-- From the old state the machine may give the reply and go on to the new state. (Ours; docs/SCRIPT.md.)
unfoldable pub Step : Whole → Request → Reply → Whole → Type 0
Step old request reply new = Takes (call_of request) old reply new

-- A run of the machine: the states from the start to the end are joined by steps, and each request gets one reply.
unfoldable pub Run : Whole → List Request → List Reply → Whole → Type 0
Run start [] [] end = end ≡ start
Run start (request ∷ requests) (reply ∷ replies) end = (mid : Whole) × Step start request reply mid
    × Run mid requests replies end
Run start [] (reply ∷ replies) end = ⊥
Run start (request ∷ requests) [] end = ⊥

-- A request may get this reply: so may the store serve it; and where the store tells its state, this is
-- a step of the machine.
pub record IsReply (old : Held) (request : Request) (reply : Reply) (new : Held) : Type 0 where
  pub served : Serves old request reply new
  pub step : HeldTold (λ before after. Step before request reply after) old new
