use Rattle.std.proofs.Common.{length, ◌≤◌, ◌+◌, ◌*◌}
use Rattle.gx_rules.specs.Pattern.{IsMatch}
use Rattle.gx_rules.specs.PatternReading.{IsAlive, IsSound, IsAhead, IsWithin, steps_left}
use Rattle.gx_rules.proofs.pattern.matching.is_match.Given as goal

abbrev pub invariant-loop-next : goal.invariant-loop-next
invariant-loop-next g l = record {
  sound : IsSound l.walk;
  onward : IsMatch l.fn.pattern l.fn.name → IsAlive l.walk;
  back : IsAlive l.walk → IsMatch l.fn.pattern l.fn.name;
  within : IsWithin (length l.fn.pattern) l.walk;
  ahead : IsAhead l.walk;
  passed : l.fn.steps + length l.fn.name ≤ l.steps + length l.walk.name.now;
  counts : l.fn.steps ≤ l.steps;
  cost : l.steps + steps_left (length l.fn.pattern) l.walk ≤ l.fn.steps + (length l.fn.pattern + 1) * (length l.fn.name + 1);
}

abbrev pub decreases-loop-next : goal.decreases-loop-next
decreases-loop-next g l = steps_left (length l.fn.pattern) l.walk
