use Rattle.gix.proofs.MachineLemmas.{accepts_of}
use Rattle.gix.proofs.laws.commit_is_accepted.Goals as goal

pub returns : goal.returns
returns c = accepts_of c.laws_below.ensures
