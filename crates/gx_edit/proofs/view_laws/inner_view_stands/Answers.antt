use Rattle.gx_edit.proofs.ViewParts.{stands_inside}
use Rattle.gx_edit.proofs.view_laws.inner_view_stands.Goals as goal

pub returns : goal.returns
returns c = λ hash content v m d s there. stands_inside hash content v m d s there
