-- The forms that are not served.
use Rattle.std.proofs.Common.{◌≡◌, refl, Option, Some, None, Ok, Err}
use Rattle.gix.specs.Asking.{asks}
use Rattle.gix.specs.Held.{Held, BothTold, state_told}
use Rattle.gix.specs.Meaning.{IsLawful}
use Rattle.gix.specs.View.{State}
use Rattle.gx_tool.specs.declared.refusal.Refusal.TheVariants.{Unsupported}
use Rattle.gx_tool.specs.declared.reply.Reply.TheVariants.{Refused}
use Rattle.gx_tool.specs.Call.{Executes}
use Rattle.gx_tool.specs.UnservedForm.{no_query, unserved_call}
use Rattle.gx_tool.proofs.CallLemmas.{Allowed, Lawful}

told_itself : (told : Option State) (P : State → Type 0) → ((state : State) → P state) → BothTold (λ o n. (n ≡ o) × P o) told told
told_itself None P h = tt
told_itself (Some state) P h = (refl, h state)

pub unserved_executes : (held : Held) → Executes unserved_call held (Ok (Refused Unsupported)) held
unserved_executes held = record {
  outcome = Err Unsupported;
  told = refl;
  means = record {
    ok = tt;
    settles = tt;
    leaves = refl;
    causes = refl;
    settings = refl;
    accepts = tt;
    refuses = λ none. told_itself (state_told held.store.hash held.store.content held.store.references) _ (λ state. refl);
  };
}

no_query_lawful : IsLawful (asks no_query)
no_query_lawful = record {
  same = λ settings old new e none left. left;
  stays = λ settings old new answer makes. absurd makes.1;
  rises = λ settings old new e fault readable is cause. cc;
}

pub unserved_lawful : Lawful unserved_call
unserved_lawful = record { lawful = no_query_lawful; refuses = λ e refusal told. refl; faults = λ e fault told. cc }

pub unserved_allowed : Allowed unserved_call
unserved_allowed = λ settings old new e refusal valid told refuses. valid
