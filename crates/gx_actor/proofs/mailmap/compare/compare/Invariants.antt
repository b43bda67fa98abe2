use Rattle.std.proofs.Common.{◌≡◌, length}
use Rattle.std.specs.Ordering.{nat_cmp}
use Rattle.std.specs.Cmp.Lexicographic.{slice_cmp}
use Rattle.std.specs.Str.{str_to_ascii_lowercase}
use Rattle.gx_actor.proofs.mailmap.compare.compare.Given as goal

-- the order of what is left is that of the whole
abbrev pub invariant-loop-x : goal.invariant-loop-x
invariant-loop-x l = slice_cmp nat_cmp l.left (str_to_ascii_lowercase l.right) ≡ slice_cmp nat_cmp l.fn.lowered (str_to_ascii_lowercase l.fn.text)

abbrev pub decreases-loop-x : goal.decreases-loop-x
decreases-loop-x l = length l.left
