use Rattle.std.proofs.Common.{◌≡◌, length}
use Rattle.gx_edit.specs.Path.{components}
use Rattle.gx_edit.specs.PathList.{has_empty_name}
use Rattle.gx_edit.proofs.path.has_empty_name.Given as goal

-- no name before the rest is empty
abbrev pub invariant-loop-name : goal.invariant-loop-name
invariant-loop-name l = has_empty_name (components l.rest) ≡ has_empty_name (components l.fn.path)

abbrev pub decreases-loop-name : goal.decreases-loop-name
decreases-loop-name l = length l.rest
