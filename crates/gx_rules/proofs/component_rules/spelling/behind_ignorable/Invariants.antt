use Rattle.std.proofs.Common.{◌≡◌, length}
use Rattle.gx_rules.specs.Component.{without_ignorable}
use Rattle.gx_rules.proofs.component_rules.spelling.behind_ignorable.Given as goal

abbrev pub invariant-loop-behind : goal.invariant-loop-behind
invariant-loop-behind l = without_ignorable l.rest ≡ without_ignorable l.name

abbrev pub decreases-loop-behind : goal.decreases-loop-behind
decreases-loop-behind l = length l.rest
