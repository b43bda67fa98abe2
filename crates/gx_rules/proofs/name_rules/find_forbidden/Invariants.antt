use Rattle.std.proofs.Common.{ℕ, ◌<◌}
use Rattle.gx_rules.specs.Name.{ForbiddenAt}
use Rattle.gx_rules.proofs.name_rules.find_forbidden.Given as goal

abbrev pub invariant-loop-at : goal.invariant-loop-at
invariant-loop-at l = (k : ℕ) → k < l.at → ¬ ForbiddenAt l.name k
