use Rattle.gx_object.proofs.ReadBack.{commit_back}
use Rattle.gx_object.specs.Laws.WrittenCommits.{commit_spelled, commit_copy}
use Rattle.gx_object.proofs.laws.written_commit_is_read.Goals as goal

pub returns-clause-spelled : goal.returns-clause-spelled
returns-clause-spelled c = commit_spelled

pub returns-clause-copy : goal.returns-clause-copy
returns-clause-copy c = commit_copy

pub returns-clause-back : goal.returns-clause-back
returns-clause-back c = commit_back
