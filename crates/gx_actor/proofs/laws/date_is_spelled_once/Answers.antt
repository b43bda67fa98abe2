use Rattle.gx_actor.proofs.DatesOnce.{once}
use Rattle.gx_actor.proofs.laws.date_is_spelled_once.Goals as goal

pub returns : goal.returns
returns c = λ now text a b. once c.time_is_spelled_once.ensures now text a b
