use Rattle.gx_walk.proofs.LawLemmas.{without_hidden}
use Rattle.gx_walk.proofs.laws.hidden_walk_is_the_walk_without_it.Goals as goal

pub returns : goal.returns
returns c = without_hidden
