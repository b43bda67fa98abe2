use Rattle.gx_walk.proofs.AnswerLemmas.{bases_are_one_list, octopus_is_one}
use Rattle.gx_walk.proofs.laws.bases_are_one_list.Goals as goal

pub returns-clause-bases : goal.returns-clause-bases
returns-clause-bases c = bases_are_one_list

pub returns-clause-octopus : goal.returns-clause-octopus
returns-clause-octopus c = octopus_is_one
