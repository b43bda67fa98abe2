-- How a run without faults ends.
use Rattle.std.proofs.Common.{◌≡◌, ◌∙◌, sym, ap, refl, subst, ℕ, ◌≤◌, List, [], ◌∷◌, ◌++◌, length, Option, Some, None, arith, length-append, ◌⊎◌, inl, inr, false, Bool}
use Rattle.std.specs.List.{flat_map}
use Rattle.gx_store.specs.State.{StoreState}
use Rattle.gx_store.specs.Faults.{Rose}
use Rattle.gx_store.specs.Outside.{Takes}
use Rattle.gx_store.specs.declared.error.What.{What}
use Rattle.gix.specs.Held.{Held}
use Rattle.gix.specs.Meaning.{Stays}
use Rattle.gx_script.specs.declared.request.Request.{Request}
use Rattle.gx_script.specs.Reading.{Reading}
use Rattle.gx_script.specs.Spelling.{spelling}
use Rattle.gx_tool.specs.declared.executing.ExecuteError.TheVariants as no_reply
use Rattle.gx_tool.specs.declared.reply.Reply.{Reply}
use Rattle.gx_tool.specs.declared.reply.Reply.TheVariants.{Accepted, Refused}
use Rattle.gx_tool.specs.declared.status.Status.{Status}
use Rattle.gx_tool.specs.declared.status.Status.TheVariants.{Done, Refusals, Malformed, ReadFault, WriteFault, NoMemory, BadWords, StoreFault, TooLong}
use Rattle.gx_tool.specs.Call.{Call}
use Rattle.gx_tool.specs.CallLaws.{CallLaws}
use Rattle.gx_tool.specs.Completeness.{IsFaultless}
use Rattle.gx_tool.specs.Course.{Moment, Answers, Ends, code, taken_count}
use Rattle.gx_tool.specs.Serving.{call_of, Gives, Serves, ServesAll, Stops}
use Rattle.gx_tool.proofs.CallLemmas.{Lawful}
use Rattle.gx_tool.proofs.CourseLemmas.{SoFar}
use Rattle.gx_tool.proofs.FormLemmas.{lawful}
use Rattle.gx_tool.proofs.OutsideLemmas.{rose_before}

stays_same : (old new : StoreState) → new ≡ old → Stays old new
stays_same old new same = subst (λ n. Stays old n) (sym same) (record { kind = refl; parts = refl; later = omega arith })

stays_then : (old mid new : StoreState) → Stays old mid → Stays mid new → Stays old new
stays_then old mid new p q = record { kind = q.kind ∙ p.kind; parts = q.parts ∙ p.parts; later = omega (arith, p.later, q.later) }

given_stays : (c : Call) → Lawful c → (old : Held) (reply : Reply) (new : Held) → Gives c old reply new → Stays old.store new.store
given_stays c l old (Accepted answer) new h = l.lawful.stays old.settings old.store new.store h.made h.makes
given_stays c l old (Refused refusal) new h = stays_same old.store new.store (ap (λ (held : Held). held.store) h.same)

served_stays : CallLaws → (request : Request) (old : Held) (reply : Reply) (new : Held) → Serves old request reply new → Stays old.store new.store
unfolding Serves
served_stays laws request old reply new h = given_stays (call_of request) (lawful laws request) old reply new h

pub all_stay : CallLaws → (old : Held) (requests : List Request) (replies : List Reply) (new : Held) → ServesAll old requests replies new → Stays old.store new.store
unfolding ServesAll
all_stay laws old [] [] new h = stays_same old.store new.store (ap (λ (held : Held). held.store) h)
all_stay laws old [] (reply ∷ replies) new h = absurd h
all_stay laws old (request ∷ requests) [] new h = absurd h
all_stay laws old (request ∷ requests) (reply ∷ replies) new h = stays_then old.store h.0.store new.store (served_stays laws request old reply h.0 h.1) (all_stay laws h.0 requests replies new h.2)

-- the reader's ids are of the kind of the store as it is now
pub kind_now : CallLaws → (limit : ℕ) (start now : Moment) (reading : Reading) (accepted : Bool) → SoFar limit start now reading accepted → reading.hash ≡ now.held.store.hash
kind_now laws limit start now reading accepted s = s.kind ∙ sym (all_stay laws start.held s.requests s.replies now.held s.course.run).kind

stopped_fault : CallLaws → (request : Request) (old new : Held) (fault : What) → ((part : What) → old.store.unreadable part ≡ false) → Stops old request new (no_reply.Store fault) → Rose old.store.faults new.store.faults
unfolding Stops
stopped_fault laws request old new fault readable h =
    let l = lawful laws request in
    l.lawful.rises old.settings old.store new.store h.failure fault readable (l.faults h.failure fault h.told) h.cause

pub fault_rises : CallLaws → (start now held : Held) (request : Request) (fault : What) → ((part : What) → start.store.unreadable part ≡ false) → Stays start.store held.store → Stops held request now (no_reply.Store fault) → Rose start.store.faults now.store.faults
fault_rises laws start now held request fault readable stays stops =
    let rose = stopped_fault laws request held now fault (λ part. ap (λ f. f part) stays.parts ∙ readable part) stops in
    rose_before start.store.faults held.store.faults now.store.faults stays.later rose

-- the statuses of a run without faults of a script within the limit
abbrev IsQuiet : Status → Type 0
IsQuiet status = (code status ≡ 0) ⊎ ((code status ≡ 1) ⊎ ((code status ≡ 2) ⊎ (code status ≡ 5)))

quiet_end : CallLaws → (limit : ℕ) (start now : Moment) (requests : List Request) (replies : List Reply) (rest out : List ℕ) (held : Held) (status : Status) → IsFaultless start now → taken_count requests rest ≤ limit → ServesAll start.held requests replies held → Ends limit start now requests replies rest out held status → IsQuiet status
quiet_end laws limit start now requests replies rest out held Done f few run e = inl refl
quiet_end laws limit start now requests replies rest out held Refusals f few run e = inr (inl refl)
quiet_end laws limit start now requests replies rest out held Malformed f few run e = inr (inr (inl refl))
quiet_end laws limit start now requests replies rest out held ReadFault f few run e = absurd (f.source e.2)
quiet_end laws limit start now requests replies rest out held WriteFault f few run e = absurd (f.sink e.1)
quiet_end laws limit start now requests replies rest out held NoMemory f few run e = inr (inr (inr refl))
quiet_end laws limit start now requests replies rest out held BadWords f few run e = absurd e
quiet_end laws limit start now requests replies rest out held StoreFault f few run e =
    absurd (f.store.quiet (fault_rises laws start.held now.held held e.2.1.request e.2.0 f.store.readable (all_stay laws start.held requests replies held run) e.2.1.fails))
quiet_end laws limit start now requests replies rest out held TooLong f few run e = absurd (omega (arith, e.0, few))

-- no more is taken than there was
taken_within : (limit : ℕ) (old new : Option (List ℕ)) (bytes taken : List ℕ) → old ≡ Some bytes → length bytes ≤ limit → Takes old new taken → length taken ≤ limit
taken_within limit old new bytes taken o few t = go new (subst (λ (x : Option (List ℕ)). Takes x new taken) o t)
  where
    go : (new : Option (List ℕ)) → Takes (Some bytes) new taken → length taken ≤ limit
    go None t = absurd t
    go (Some left) t = omega (arith, ap length t, length-append taken left, few)

pub quiet : CallLaws → (limit : ℕ) (start now : Moment) (number : ℕ) (bytes : List ℕ) → Answers limit start now number → IsFaultless start now → start.left ≡ Some bytes → length bytes ≤ limit → (number ≡ 0) ⊎ ((number ≡ 1) ⊎ ((number ≡ 2) ⊎ (number ≡ 5)))
quiet laws limit start now number bytes a f o few =
    let taken = taken_within limit start.left now.left bytes (flat_map spelling a.served.requests ++ a.served.rest) o few a.served.course.takes in
    let q : IsQuiet a.status = quiet_end laws limit start now a.served.requests a.served.replies a.served.rest a.served.out a.served.held a.status f taken a.served.course.run a.served.ends in
    subst (λ (n : ℕ). (n ≡ 0) ⊎ ((n ≡ 1) ⊎ ((n ≡ 2) ⊎ (n ≡ 5)))) (sym a.is) q
