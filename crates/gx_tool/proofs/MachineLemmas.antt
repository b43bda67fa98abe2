-- Runs of the machine, step by step.
use Rattle.std.proofs.Common.{refl, subst, List, [], ◌∷◌, ◌++◌, Option, Some, None}
use Rattle.gix.specs.Held.{Held, Whole, HeldTold, BothTold, state_of}
use Rattle.gix.specs.View.{State}
use Rattle.gx_script.specs.declared.request.Request.{Request}
use Rattle.gx_tool.specs.declared.reply.Reply.{Reply}
use Rattle.gx_tool.specs.Machine.{Step, Run}

-- a state that is told at both ends is told on the way
told_then : (P Q R : State → State → Type 0) (a b c : Option State) → ((old mid new : State) → P old mid → Q mid new → R old new) → BothTold P a b → BothTold Q b c → BothTold R a c
told_then P Q R None None None f p q = tt
told_then P Q R None None (Some c) f p q = absurd q
told_then P Q R None (Some b) c f p q = absurd p
told_then P Q R (Some a) None c f p q = absurd p
told_then P Q R (Some a) (Some b) None f p q = absurd q
told_then P Q R (Some a) (Some b) (Some c) f p q = f a b c p q

-- a run goes on by a step
run_on : (requests : List Request) (replies : List Reply) (request : Request) (reply : Reply) (old mid new : Whole) → Run old requests replies mid → Step mid request reply new → Run old (requests ++ request ∷ []) (replies ++ reply ∷ []) new
unfolding Run
run_on [] [] request reply old mid new run step = (new, subst (λ o. Step o request reply new) run step, refl)
run_on [] (r ∷ rs) request reply old mid new run step = absurd run
run_on (q ∷ qs) [] request reply old mid new run step = absurd run
run_on (q ∷ qs) (r ∷ rs) request reply old mid new run step = (run.0, run.1, run_on qs rs request reply run.0 mid new run.2 step)

pub runs_on : (requests : List Request) (replies : List Reply) (request : Request) (reply : Reply) (old mid new : Held) → HeldTold (λ o n. Run o requests replies n) old mid → HeldTold (λ o n. Step o request reply n) mid new → HeldTold (λ o n. Run o (requests ++ request ∷ []) (replies ++ reply ∷ []) n) old new
runs_on requests replies request reply old mid new run step =
    told_then _ _ _ (state_of old.store) (state_of mid.store) (state_of new.store) (λ o m n p q. run_on requests replies request reply _ _ _ p q) run step

no_run : (state : Whole) → Run state [] [] state
unfolding Run
no_run state = refl

told_itself : (R : State → State → Type 0) (told : Option State) → ((state : State) → R state state) → BothTold R told told
told_itself R None h = tt
told_itself R (Some state) h = h state

pub runs_none : (held : Held) → HeldTold (λ o n. Run o [] [] n) held held
runs_none held = told_itself _ (state_of held.store) (λ state. no_run (record { settings = held.settings; state = state }))
