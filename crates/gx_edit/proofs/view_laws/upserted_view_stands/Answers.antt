use Rattle.gx_edit.proofs.ViewEdits.{upserted_stands}
use Rattle.gx_edit.proofs.view_laws.upserted_view_stands.Goals as goal

pub returns : goal.returns
returns c = λ hash content load v m n p leaf loads good s. upserted_stands hash content load loads v m n p leaf good s
