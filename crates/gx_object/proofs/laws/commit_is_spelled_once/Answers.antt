use Rattle.gx_object.specs.Laws.OneCommit.{one_commit}
use Rattle.gx_object.proofs.laws.commit_is_spelled_once.Goals as goal

pub returns : goal.returns
returns c = one_commit
