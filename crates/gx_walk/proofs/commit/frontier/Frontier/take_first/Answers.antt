use Rattle.std.proofs.Common.{rules, arith, refl}
use Rattle.std.proofs.lemmas.Grind.{common_steps}
use Rattle.std.proofs.lemmas.List.{nil_from_length}
use Rattle.gx_walk.proofs.FrontierLemmas.{next_best, next_kept, next_none, same_frontier}
use Rattle.gx_walk.proofs.commit.frontier.Frontier.take_first.Goals as goal

pub returns-in_default-clause-none : goal.returns-in_default-clause-none
returns-in_default-clause-none c =
    let empty = nil_from_length _ (grind (arith, common_steps)) in
    record {
      none = λ history sorting excluded mentioned listed it.
          next_none history sorting excluded mentioned listed c.args.self.now c.args.self.now it refl refl refl empty;
      kept = λ history sorting excluded mentioned listed it.
          same_frontier history sorting excluded mentioned listed c.args.self.now _ it refl refl refl (grind (arith, common_steps));
    }

pub returns-clause-best : goal.returns-clause-best
returns-clause-best c = record {
  best = λ history sorting excluded mentioned listed it. next_best history sorting excluded mentioned listed c.args.self.now c.args.self.now it refl refl refl c.in-Some.field-0-0.0 c.in-Some.field-0-0.1 c.in-Some.id (search rules) (search rules);
  kept = λ history sorting excluded mentioned listed it. next_kept history sorting excluded mentioned listed c.args.self.now _ it refl refl refl c.in-Some.field-0-0.0 c.in-Some.field-0-0.1 c.in-Some.id (search rules) (search rules);
}
