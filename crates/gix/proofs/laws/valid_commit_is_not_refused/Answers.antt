use Rattle.gix.proofs.MadeLemmas.{never_refused}
use Rattle.gix.proofs.laws.valid_commit_is_not_refused.Goals as goal

pub returns : goal.returns
returns c = λ r settings old new e valid none refuses. never_refused c.laws_below.ensures settings r old valid e refuses.cause
