use Rattle.gix.proofs.MadeLemmas.{made}
use Rattle.gix.proofs.laws.valid_is_made.Goals as goal

pub returns : goal.returns
returns c = made c.laws_below.ensures
