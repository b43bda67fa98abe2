use Rattle.gix.proofs.HistoryLemmas.{accepted_line, stored_line, each_line}
use Rattle.gix.proofs.laws.map_of_first_parent_line.Goals as goal

pub returns-clause-accepted : goal.returns-clause-accepted
returns-clause-accepted c = accepted_line c.laws_below.ensures

pub returns-clause-stored : goal.returns-clause-stored
returns-clause-stored c = stored_line c.laws_below.ensures

pub returns-clause-every : goal.returns-clause-every
returns-clause-every c = each_line c.laws_below.ensures
