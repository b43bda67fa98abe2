use Rattle.gx_hash.specs.Laws.Digits.{named}
use Rattle.gx_hash.proofs.laws.digits_are_of_an_id.Goals as goal

pub returns : goal.returns
returns c = named
