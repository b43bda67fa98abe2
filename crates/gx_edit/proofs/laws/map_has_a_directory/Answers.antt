use Rattle.gx_edit.proofs.ExistsLemmas.{has_directory}
use Rattle.gx_edit.proofs.laws.map_has_a_directory.Goals as goal

pub returns : goal.returns
returns c = has_directory
