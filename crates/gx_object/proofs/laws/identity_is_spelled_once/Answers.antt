use Rattle.gx_object.specs.Laws.OneCommit.{one_identity}
use Rattle.gx_object.proofs.laws.identity_is_spelled_once.Goals as goal

pub returns : goal.returns
returns c = one_identity
