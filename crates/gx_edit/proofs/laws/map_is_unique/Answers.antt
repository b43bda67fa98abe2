use Rattle.gx_edit.proofs.RootLemmas.{map_fixed}
use Rattle.gx_edit.proofs.laws.map_is_unique.Goals as goal

pub returns : goal.returns
returns c = map_fixed
