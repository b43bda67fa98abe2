use Rattle.gix.proofs.ValidLemmas.{admitted}
use Rattle.gix.proofs.laws.valid_is_admitted.Goals as goal

pub returns : goal.returns
returns c = admitted c.laws_below.ensures
