use Rattle.std.proofs.Common.{◌≡◌, ◌+◌, ◌<◌, ◌≤◌, ◌∷◌, length}
use Rattle.gx_rules.specs.Pattern.{letters}
use Rattle.gx_rules.specs.PatternReading.{letter_of, set_holds, or_held}
use Rattle.gx_rules.proofs.pattern.set.read_members.Given as goal

abbrev pub invariant-loop-is_held : goal.invariant-loop-is_held
invariant-loop-is_held g l = record {
  found : set_holds (letters l.fn.text) l.byte ≡ or_held l.is_held (set_holds (letter_of l.first ∷ letters l.rest) l.byte);
  cost : l.steps + length l.rest < l.fn.steps + length l.fn.text;
  counts : l.fn.steps ≤ l.steps;
  shorter : length l.rest < length l.fn.text;
}

abbrev pub decreases-loop-is_held : goal.decreases-loop-is_held
decreases-loop-is_held g l = length l.rest
