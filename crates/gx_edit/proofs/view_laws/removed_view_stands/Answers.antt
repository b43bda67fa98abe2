use Rattle.gx_edit.proofs.ViewEdits.{removed_stands}
use Rattle.gx_edit.proofs.view_laws.removed_view_stands.Goals as goal

pub returns : goal.returns
returns c = λ hash content load v m n p loads s. removed_stands hash content load loads v m n p s
