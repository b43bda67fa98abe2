use Rattle.std.proofs.Common.{length}
use Rattle.gx_edit.specs.Path.{components}
use Rattle.gx_edit.specs.Nodes.{places_of, Goes}
use Rattle.gx_edit.proofs.editor.paths.follow.Given as goal

-- the path leads here
abbrev pub invariant-loop-name : goal.invariant-loop-name
invariant-loop-name l = Goes (places_of l.nodes) (components l.path) l.at (components l.rest)

abbrev pub decreases-loop-name : goal.decreases-loop-name
decreases-loop-name l = length l.rest
