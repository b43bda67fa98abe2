use Rattle.gx_edit.proofs.EditedViews.{edits_stand}
use Rattle.gx_edit.proofs.view_laws.edited_view_stands.Goals as goal

pub returns : goal.returns
returns c = λ hash content load v m edits loads own s. edits_stand hash content load loads edits v m own s
