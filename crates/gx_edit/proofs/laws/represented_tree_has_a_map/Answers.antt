use Rattle.gx_edit.proofs.MapTreeLemmas.{trees_have_maps}
use Rattle.gx_edit.proofs.laws.represented_tree_has_a_map.Goals as goal

pub returns : goal.returns
returns c = trees_have_maps
