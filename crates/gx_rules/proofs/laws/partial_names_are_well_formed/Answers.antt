use Rattle.gx_rules.specs.Laws.Formats.{well_formed, partial_again}
use Rattle.gx_rules.proofs.laws.partial_names_are_well_formed.Goals as goal

pub returns : goal.returns
returns c = record { formed = well_formed c.args.name.now; partial = partial_again c.args.name.now }
