use Rattle.std.proofs.Common.{ℕ, ◌<◌}
use Rattle.gx_rules.specs.Name.{StandsAt}
use Rattle.gx_rules.proofs.name_rules.find.Given as goal

abbrev pub invariant-loop-at : goal.invariant-loop-at
invariant-loop-at l = (k : ℕ) → k < l.at → ¬ StandsAt l.text l.name k
