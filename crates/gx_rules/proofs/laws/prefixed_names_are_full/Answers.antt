use Rattle.gx_rules.specs.Laws.Namespaces.{full_after_prefix}
use Rattle.gx_rules.proofs.laws.prefixed_names_are_full.Goals as goal

pub returns : goal.returns
returns c = full_after_prefix c.args.name.now c.args.full.now
