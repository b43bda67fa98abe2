use Rattle.gx_rules.proofs.NameLaws.{one_first_broken}
use Rattle.gx_rules.proofs.laws.one_error_is_first.Goals as goal

pub returns : goal.returns
returns c = one_first_broken c.args.name.now
