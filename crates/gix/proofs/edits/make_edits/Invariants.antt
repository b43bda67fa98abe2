use Rattle.gx_edit.specs.Editor.{view_of as directories_of}
use Rattle.gix.proofs.EditLemmas.{IsEditing}
use Rattle.gix.proofs.edits.make_edits.Given as goal

abbrev pub invariant-loop-edit : goal.invariant-loop-edit
invariant-loop-edit g l = IsEditing (g.S.Meanings.state l.store) (directories_of l.fn.base) l.edits l.edit-index l.editor l.blobs.items
