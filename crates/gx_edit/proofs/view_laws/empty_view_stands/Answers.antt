use Rattle.std.proofs.Common.{refl}
use Rattle.gx_edit.specs.PathMap.{no_paths}
use Rattle.gx_edit.proofs.FreshView.{empty_stands}
use Rattle.gx_edit.proofs.view_laws.empty_view_stands.Goals as goal

pub returns : goal.returns
returns c = λ hash content. empty_stands hash content no_paths (λ q. refl)
