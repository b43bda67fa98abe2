use Rattle.gx_object.proofs.TimesOnce.{one_time}
use Rattle.gx_object.proofs.laws.time_is_spelled_once.Goals as goal

pub returns : goal.returns
returns c = one_time
