-- Valid requests are accepted.
use Rattle.std.proofs.Common.{◌≡◌, refl, subst, List, [], ◌∷◌, Option, Some, None, Bool, true, false}
use Rattle.std.specs.Prelude.{◌&&◌}
use Rattle.gix.specs.Held.{Held, Whole, HeldTold, BothTold, state_of}
use Rattle.gix.specs.View.{State}
use Rattle.gx_script.specs.declared.request.Request.{Request}
use Rattle.gx_tool.specs.declared.reply.Reply.{Reply}
use Rattle.gx_tool.specs.declared.reply.Reply.TheVariants.{Accepted, Refused}
use Rattle.gx_tool.specs.Call.{Call}
use Rattle.gx_tool.specs.CallLaws.{CallLaws}
use Rattle.gx_tool.specs.Completeness.{IsValid, AreValid}
use Rattle.gx_tool.specs.Machine.{Takes, Step, Run}
use Rattle.gx_tool.specs.Reply.{is_accepted, all_accepted}
use Rattle.gx_tool.specs.Serving.{call_of}
use Rattle.gx_tool.proofs.CallLemmas.{Allowed}
use Rattle.gx_tool.proofs.FormLemmas.{allowed}

accepted_by : (c : Call) → Allowed c → (old : Whole) (reply : Reply) (next : Whole) → c.valid old.settings old.state → Takes c old reply next → is_accepted reply ≡ true
accepted_by c allowed old (Accepted answer) next valid step = refl
accepted_by c allowed old (Refused refusal) next valid step = absurd (allowed old.settings old.state next.state step.error refusal valid step.told step.refuses)

pub accepted_step : CallLaws → (request : Request) (old : Whole) (reply : Reply) (next : Whole) → IsValid old request → Step old request reply next → is_accepted reply ≡ true
unfolding IsValid Step
accepted_step laws request old reply next valid step = accepted_by (call_of request) (allowed laws request) old reply next valid step

both_true : (a b : Bool) → a ≡ true → b ≡ true → (a && b) ≡ true
both_true true true p q = refl
both_true true false p q = q
both_true false b p q = p

accepted_run : CallLaws → (start : Whole) (requests : List Request) (replies : List Reply) (end : Whole) → AreValid start requests → Run start requests replies end → all_accepted replies ≡ true
unfolding AreValid Run
accepted_run laws start [] [] end valid run = refl
accepted_run laws start [] (reply ∷ replies) end valid run = absurd run
accepted_run laws start (request ∷ requests) [] end valid run = absurd run
accepted_run laws start (request ∷ requests) (reply ∷ replies) end valid run =
    both_true (is_accepted reply) (all_accepted replies) (accepted_step laws request start reply run.0 valid.0 run.1) (accepted_run laws run.0 requests replies end (valid.1 reply run.0 run.1) run.2)

told_run : (R : State → State → Type 0) (told told' : Option State) (state : State) → told ≡ Some state → BothTold R told told' → (end : State) × R state end
told_run R told None state is h = absurd (subst (λ (t : Option State). BothTold R t None) is h)
told_run R told (Some end) state is h = (end, subst (λ (t : Option State). BothTold R t (Some end)) is h)

-- of a store that tells its state
pub valid_accepted : CallLaws → (state : State) (old new : Held) (requests : List Request) (replies : List Reply) → state_of old.store ≡ Some state → AreValid (record { settings = old.settings; state = state }) requests → HeldTold (λ o n. Run o requests replies n) old new → all_accepted replies ≡ true
valid_accepted laws state old new requests replies told valid run =
    let end = told_run _ (state_of old.store) (state_of new.store) state told run in
    accepted_run laws (record { settings = old.settings; state = state }) requests replies _ valid end.1
