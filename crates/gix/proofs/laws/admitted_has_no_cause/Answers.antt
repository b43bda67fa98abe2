use Rattle.gix.proofs.NoCauseLemmas.{no_cause}
use Rattle.gix.proofs.laws.admitted_has_no_cause.Goals as goal

pub returns : goal.returns
returns c = λ settings r state output e a cause. no_cause c.laws_below.ensures settings r state output a e cause
