use Rattle.gx_edit.proofs.LoadedPaths.{removed_loaded}
use Rattle.gx_edit.proofs.view_laws.removed_view_loads.Goals as goal

pub returns : goal.returns
returns c = λ hash load v p q there. removed_loaded hash load v p q there
