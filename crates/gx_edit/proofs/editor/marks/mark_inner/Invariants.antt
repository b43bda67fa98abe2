use Rattle.gx_edit.proofs.EditorMarks.{MarkedSoFar}
use Rattle.gx_edit.proofs.editor.marks.mark_inner.Given as goal

abbrev pub invariant-loop-place : goal.invariant-loop-place
invariant-loop-place l = MarkedSoFar l.inner.entries l.initial.marks l.marks l.place-iterator
