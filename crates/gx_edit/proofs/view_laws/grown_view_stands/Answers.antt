use Rattle.gx_edit.proofs.GrownView.{stands_still}
use Rattle.gx_edit.proofs.view_laws.grown_view_stands.Goals as goal

pub returns : goal.returns
returns c = λ hash old new v m kept s. stands_still hash old new kept v m s
