use Rattle.gx_edit.proofs.ViewEdits.{opened_stands}
use Rattle.gx_edit.proofs.view_laws.opened_view_stands.Goals as goal

pub returns : goal.returns
returns c = λ hash content load v m n loads s. opened_stands hash content load loads v m n s
