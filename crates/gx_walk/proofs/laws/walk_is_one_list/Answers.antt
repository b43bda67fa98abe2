use Rattle.gx_walk.proofs.LawLemmas.{next_is_unique, next_goes_on, walk_is_unique, lists_once, later_answers_keep}
use Rattle.gx_walk.proofs.laws.walk_is_one_list.Goals as goal

pub returns-clause-next : goal.returns-clause-next
returns-clause-next c = next_is_unique

pub returns-clause-goes_on : goal.returns-clause-goes_on
returns-clause-goes_on c = next_goes_on

pub returns-clause-whole : goal.returns-clause-whole
returns-clause-whole c = walk_is_unique

pub returns-clause-once : goal.returns-clause-once
returns-clause-once c = lists_once

pub returns-clause-later : goal.returns-clause-later
returns-clause-later c = later_answers_keep
