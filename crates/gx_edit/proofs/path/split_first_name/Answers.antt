use Rattle.std.proofs.Common.{rules}
use Rattle.gx_edit.proofs.ComponentLemmas.{components_some}
use Rattle.gx_edit.proofs.path.split_first_name.Goals as goal

pub returns-in-Some-clause-more : goal.returns-in-Some-clause-more
returns-in-Some-clause-more c = search (rules, components_some)
