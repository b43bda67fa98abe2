use Rattle.gx_rules.proofs.ComponentLaws.{one_first_violated}
use Rattle.gx_rules.proofs.laws.one_component_error_is_first.Goals as goal

pub returns : goal.returns
returns c = one_first_violated c.args.name.now c.args.is_link c.args.protect
