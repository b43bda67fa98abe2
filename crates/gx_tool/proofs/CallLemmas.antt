-- What any call gets for a reply, from what it means.
use Rattle.std.proofs.Common.{◌≡◌, refl, sym, subst, Option, Some, None, Result, Ok, Err, IfOk, IfErr}
use Rattle.gx_store.specs.declared.error.StoreError.TheVariants.{Fault}
use Rattle.gx_store.specs.declared.error.What.{What}
use Rattle.gix.specs.Held.{Held, HeldTold, BothTold, state_of}
use Rattle.gix.specs.Meaning.{Means, IsLawful}
use Rattle.gix.specs.View.{State}
use Rattle.gix.specs.declared.settings.Settings.{Settings}
use Rattle.gx_script.specs.declared.request.Request.{Request}
use Rattle.gx_tool.specs.declared.executing.ExecuteError.{ExecuteError}
use Rattle.gx_tool.specs.declared.executing.ExecuteError.TheVariants as no_reply
use Rattle.gx_tool.specs.declared.refusal.Refusal.{Refusal}
use Rattle.gx_tool.specs.declared.reply.Reply.{Reply}
use Rattle.gx_tool.specs.Call.{Call, Executes, refused, reply_by}
use Rattle.gx_tool.specs.Machine.{IsReply, Takes, Step}
use Rattle.gx_tool.specs.Serving.{call_of, Gives, HasStopped, Serves, Stops}

-- What is asked of each call: it is lawful; of its errors those are told that are refusals, and a fault of the store
-- gets no reply.
pub record Lawful (c : Call) : Type 0 where
  pub lawful : IsLawful c.meaning
  pub refuses : (e : c.Error) (refusal : Refusal) → c.tells e ≡ Ok refusal → c.meaning.fails e ≡ None
  pub faults : (e : c.Error) (fault : What) → c.tells e ≡ Err (no_reply.Store fault) → c.meaning.fails e ≡ Some (Fault fault)

-- A call that is valid is not refused by the machine.
abbrev pub Allowed : Call → Type 0
Allowed c = (settings : Settings) (old new : State) (e : c.Error) (refusal : Refusal) → c.valid settings old → c.tells e ≡ Ok refusal → c.meaning.refuses settings old e new → ⊥

both_told : (P Q : State → State → Type 0) (a b : Option State) → ((old new : State) → P old new → Q old new) → BothTold P a b → BothTold Q a b
both_told P Q None None f h = tt
both_told P Q None (Some b) f h = absurd h
both_told P Q (Some a) None f h = absurd h
both_told P Q (Some a) (Some b) f h = f a b h

held_same : (old new : Held) → new.settings ≡ old.settings → new.store ≡ old.store → new ≡ old
held_same old new settings store = λ i. record { settings = settings i; store = store i }

-- ---- a reply

gives_refused : (c : Call) → Lawful c → (old new : Held) (e : c.Error) → Means c.meaning old (Err e) new → (told : Result Refusal ExecuteError) → c.tells e ≡ told → IfOk (refused told) (λ reply. Gives c old reply new)
gives_refused c l old new e m (Ok refusal) told =
    let same : new.store ≡ old.store = l.lawful.same old.settings old.store new.store e (l.refuses e refusal told) m.leaves in
    record { error = e; told = told; cause = subst (λ s. c.meaning.causes old.settings old.store s e) same m.causes; same = held_same old new m.settings same }
gives_refused c l old new e m (Err error) told = tt

gives : (c : Call) → Lawful c → (old new : Held) (outcome : Result c.Made c.Error) → Means c.meaning old outcome new → IfOk (reply_by c.answers c.tells outcome) (λ reply. Gives c old reply new)
gives c l old new (Ok made) m = record { made = made; told = refl; makes = m.ok; settles = m.settles }
gives c l old new (Err e) m = gives_refused c l old new e m (c.tells e) refl

-- ---- a step

takes_refused : (c : Call) → Lawful c → (old new : Held) (e : c.Error) → Means c.meaning old (Err e) new → (told : Result Refusal ExecuteError) → c.tells e ≡ told → IfOk (refused told) (λ reply. HeldTold (λ o n. Takes c o reply n) old new)
takes_refused c l old new e m (Ok refusal) told =
    both_told _ _ (state_of old.store) (state_of new.store) (λ o n refuses. record { error = e; told = told; refuses = refuses; settings = m.settings }) (m.refuses (l.refuses e refusal told))
takes_refused c l old new e m (Err error) told = tt

takes : (c : Call) → Lawful c → (old new : Held) (outcome : Result c.Made c.Error) → Means c.meaning old outcome new → IfOk (reply_by c.answers c.tells outcome) (λ reply. HeldTold (λ o n. Takes c o reply n) old new)
takes c l old new (Ok made) m = both_told _ _ (state_of old.store) (state_of new.store) (λ o n accepts. record { made = made; told = refl; accepts = accepts; settles = m.settles }) m.accepts
takes c l old new (Err e) m = takes_refused c l old new e m (c.tells e) refl

-- ---- no reply

stops_refused : (c : Call) (old new : Held) (e : c.Error) → Means c.meaning old (Err e) new → (told : Result Refusal ExecuteError) → c.tells e ≡ told → IfErr (refused told) (HasStopped c old new)
stops_refused c old new e m (Ok refusal) told = tt
stops_refused c old new e m (Err error) told = record { failure = e; told = told; cause = m.causes; leaves = m.leaves; settings = m.settings }

stops : (c : Call) (old new : Held) (outcome : Result c.Made c.Error) → Means c.meaning old outcome new → IfErr (reply_by c.answers c.tells outcome) (HasStopped c old new)
stops c old new (Ok made) m = tt
stops c old new (Err e) m = stops_refused c old new e m (c.tells e) refl

-- ---- of a request

is_reply : (request : Request) (old new : Held) (reply : Reply) → Gives (call_of request) old reply new → HeldTold (λ o n. Takes (call_of request) o reply n) old new → IsReply old request reply new
unfolding Serves Step
is_reply request old new reply served step = record { served = served; step = step }

both_ok : (request : Request) (old new : Held) (given : Result Reply ExecuteError) → IfOk given (λ reply. Gives (call_of request) old reply new) → IfOk given (λ reply. HeldTold (λ o n. Takes (call_of request) o reply n) old new) → IfOk given (λ reply. IsReply old request reply new)
both_ok request old new (Ok reply) served step = is_reply request old new reply served step
both_ok request old new (Err error) served step = tt

pub replied : (request : Request) → Lawful (call_of request) → (old new : Held) (given : Result Reply ExecuteError) → Executes (call_of request) old given new → IfOk given (λ reply. IsReply old request reply new)
replied request l old new given x =
    let c : Call = call_of request in
    subst (λ g. IfOk g (λ reply. IsReply old request reply new)) (sym x.told)
    (both_ok request old new (reply_by c.answers c.tells x.outcome) (gives c l old new x.outcome x.means) (takes c l old new x.outcome x.means))

pub stopped : (request : Request) (old new : Held) (given : Result Reply ExecuteError) → Executes (call_of request) old given new → IfErr given (Stops old request new)
unfolding Stops
stopped request old new given x =
    let c : Call = call_of request in
    subst (λ g. IfErr g (HasStopped c old new)) (sym x.told) (stops c old new x.outcome x.means)
