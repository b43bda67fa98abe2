use Rattle.std.proofs.Common.{length}
use Rattle.gx_edit.specs.Path.{components}
use Rattle.gx_edit.specs.Nodes.{places_of}
use Rattle.gx_edit.proofs.DescendLemmas.{Descending}
use Rattle.gx_edit.proofs.editor.paths.descend.Given as goal

-- the directories so far are loaded
abbrev pub invariant-loop-name : goal.invariant-loop-name
invariant-loop-name g l = Descending (g.S.Meanings.state l.store) (places_of l.fn.nodes.items) l.from (components l.path) (places_of l.nodes.items) l.at (components l.rest)

abbrev pub decreases-loop-name : goal.decreases-loop-name
decreases-loop-name g l = length l.rest
