use Rattle.gx_walk.proofs.TraversalLemmas.{depth_first_is_nested}
use Rattle.gx_walk.proofs.laws.depth_first_is_nested.Goals as goal

pub returns : goal.returns
returns c = depth_first_is_nested
