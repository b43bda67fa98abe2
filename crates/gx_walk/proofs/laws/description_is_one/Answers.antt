use Rattle.gx_walk.proofs.AnswerLemmas.{description_is_one}
use Rattle.gx_walk.proofs.laws.description_is_one.Goals as goal

pub returns : goal.returns
returns c = description_is_one
