use Rattle.gx_walk.proofs.TraversalLemmas.{breadth_first_is_by_levels}
use Rattle.gx_walk.proofs.laws.breadth_first_is_by_levels.Goals as goal

pub returns : goal.returns
returns c = breadth_first_is_by_levels
