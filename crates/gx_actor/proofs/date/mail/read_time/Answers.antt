use Rattle.gx_actor.proofs.DateLemmas.{either}
use Rattle.gx_actor.proofs.date.mail.read_time.Goals as goal

pub returns : goal.returns
returns c = either _ _ c.read_one_digit.result c.in_default.ensures c.read_one_digit.ensures
