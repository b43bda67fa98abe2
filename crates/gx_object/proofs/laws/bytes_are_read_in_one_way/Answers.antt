use Rattle.gx_object.specs.Laws.TreeFronts.{reads_once}
use Rattle.gx_object.proofs.TreeReadings.{reads_always}
use Rattle.gx_object.proofs.laws.bytes_are_read_in_one_way.Goals as goal

pub returns-clause-always : goal.returns-clause-always
returns-clause-always c = reads_always

pub returns-clause-once : goal.returns-clause-once
returns-clause-once c = reads_once
