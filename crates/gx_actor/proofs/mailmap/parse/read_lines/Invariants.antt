use Rattle.std.proofs.Common.{◌≡◌, ◌++◌, length}
use Rattle.gx_actor.specs.LineReading.{mailmap_entries}
use Rattle.gx_actor.proofs.mailmap.parse.read_lines.Given as goal

-- the entries so far and those of what is left are those of the whole
abbrev pub invariant-loop-line : goal.invariant-loop-line
invariant-loop-line l = l.entries.items ++ mailmap_entries l.rest ≡ mailmap_entries l.fn.text

abbrev pub decreases-loop-line : goal.decreases-loop-line
decreases-loop-line l = length l.rest
