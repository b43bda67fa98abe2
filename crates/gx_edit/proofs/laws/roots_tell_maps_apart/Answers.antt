use Rattle.gx_edit.proofs.RootLemmas.{maps_apart}
use Rattle.gx_edit.proofs.laws.roots_tell_maps_apart.Goals as goal

pub returns : goal.returns
returns c = maps_apart
