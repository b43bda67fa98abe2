use Rattle.gx_edit.specs.Nodes.{places_of}
use Rattle.gx_edit.proofs.EditorPlanned.{AreMarked}
use Rattle.gx_edit.proofs.editor.marks.reached.Given as goal

abbrev pub invariant-loop-at : goal.invariant-loop-at
invariant-loop-at l = AreMarked (places_of l.nodes) l.at l.marks.items
