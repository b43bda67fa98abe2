use Rattle.std.proofs.Common.{◌≡◌, ◌-◌, ◌≤◌}
use Rattle.gx_tool.specs.Generator.{number_at}
use Rattle.gx_tool.proofs.generator.number_at.Given as goal

abbrev pub invariant-loop-count : goal.invariant-loop-count
invariant-loop-count l = record {
  drawn : l.number ≡ number_at l.count;
  within : l.count ≤ l.place;
}

abbrev pub decreases-loop-count : goal.decreases-loop-count
decreases-loop-count l = l.place - l.count
