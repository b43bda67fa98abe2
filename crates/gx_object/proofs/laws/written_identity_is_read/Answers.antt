use Rattle.gx_object.specs.Laws.WrittenIdentities.{identity_spelled, time_spelled}
use Rattle.gx_object.proofs.laws.written_identity_is_read.Goals as goal

pub returns-clause-spelled : goal.returns-clause-spelled
returns-clause-spelled c = identity_spelled

pub returns-clause-time : goal.returns-clause-time
returns-clause-time c = time_spelled
