use Rattle.gx_walk.proofs.AnswerLemmas.{bases_go_both_ways}
use Rattle.gx_walk.proofs.laws.bases_go_both_ways.Goals as goal

pub returns : goal.returns
returns c = bases_go_both_ways
