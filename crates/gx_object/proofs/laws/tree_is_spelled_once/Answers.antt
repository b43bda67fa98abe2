use Rattle.gx_object.specs.Laws.TreeFronts.{tree_once}
use Rattle.gx_object.proofs.laws.tree_is_spelled_once.Goals as goal

pub returns : goal.returns
returns c = tree_once
