use Rattle.gx_rules.proofs.PathLaws.{components_parted, parted_once}
use Rattle.gx_rules.proofs.laws.components_part_the_path.Goals as goal

pub returns : goal.returns
returns c = record { parted = components_parted c.args.path.now; once = parted_once c.args.path.now }
