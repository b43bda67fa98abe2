use Rattle.gx_hash.specs.Laws.IdEquality.{ids_tied, same_id, own_id}
use Rattle.gx_hash.proofs.laws.equal_ids_are_one.Goals as goal

pub returns-clause-tied : goal.returns-clause-tied
returns-clause-tied c = ids_tied

pub returns-clause-same : goal.returns-clause-same
returns-clause-same c = same_id

pub returns-clause-own : goal.returns-clause-own
returns-clause-own c = own_id
