use Rattle.gx_rules.specs.Laws.Categories.{prefix_and_short_name}
use Rattle.gx_rules.proofs.laws.a_name_is_its_prefix_and_short_name.Goals as goal

pub returns : goal.returns
returns c = prefix_and_short_name
