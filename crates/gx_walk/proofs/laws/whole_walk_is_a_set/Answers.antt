use Rattle.gx_walk.proofs.LawLemmas.{whole_lists_open, whole_lists_difference}
use Rattle.gx_walk.proofs.laws.whole_walk_is_a_set.Goals as goal

pub returns-clause-through : goal.returns-clause-through
returns-clause-through c = whole_lists_open

pub returns-clause-difference : goal.returns-clause-difference
returns-clause-difference c = whole_lists_difference
