use Rattle.std.proofs.Common.{◌≡◌, ◌++◌, length}
use Rattle.gx_object.specs.Message.{joined_lines}
use Rattle.gx_object.proofs.message.push_joined_lines.Given as goal

-- what is written and what is left to write are the whole
abbrev pub invariant-loop-line : goal.invariant-loop-line
invariant-loop-line l = l.out.items ++ joined_lines l.rest ≡ l.fn.out.items ++ joined_lines l.fn.text

abbrev pub decreases-loop-line : goal.decreases-loop-line
decreases-loop-line l = length l.rest
