use Rattle.gx_edit.proofs.EditedViews.{edits_load}
use Rattle.gx_edit.proofs.view_laws.edited_view_loads.Goals as goal

pub returns : goal.returns
returns c = λ hash load v edits q there. edits_load hash load edits v q there
