use Rattle.gx_hash.specs.Laws.IdCmp.{id_cmp_total}
use Rattle.gx_hash.specs.Laws.IdOrder.{id_cmp-IsAntisymmetric}
use Rattle.gx_hash.proofs.laws.order_is_total_and_exact.Goals as goal

pub returns-clause-total : goal.returns-clause-total
returns-clause-total c = id_cmp_total

pub returns-clause-exact : goal.returns-clause-exact
returns-clause-exact c = id_cmp-IsAntisymmetric
