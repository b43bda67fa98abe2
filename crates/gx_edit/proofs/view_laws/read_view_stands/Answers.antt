use Rattle.gx_edit.proofs.FreshView.{read_stands}
use Rattle.gx_edit.proofs.view_laws.read_view_stands.Goals as goal

pub returns : goal.returns
returns c = λ hash content tree entries m has h. read_stands hash content tree m h entries has
