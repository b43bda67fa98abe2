use Rattle.gx_object.proofs.ReadBack.{tag_back}
use Rattle.gx_object.proofs.WrittenTags.{tag_spelled, tag_copy}
use Rattle.gx_object.proofs.laws.written_tag_is_read.Goals as goal

pub returns-clause-spelled : goal.returns-clause-spelled
returns-clause-spelled c = tag_spelled

pub returns-clause-copy : goal.returns-clause-copy
returns-clause-copy c = tag_copy

pub returns-clause-back : goal.returns-clause-back
returns-clause-back c = tag_back
