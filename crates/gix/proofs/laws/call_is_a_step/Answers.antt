use Rattle.gix.proofs.StepLemmas.{step_of}
use Rattle.gix.proofs.laws.call_is_a_step.Goals as goal

pub returns : goal.returns
returns c = λ settings r old new before after answer was is commits leaves. step_of c.laws_below.ensures settings r old new before after was is answer commits leaves
