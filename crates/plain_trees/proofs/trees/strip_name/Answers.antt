use Rattle.std.proofs.Common.{rules}
use Rattle.plain_trees.proofs.PlainLemmas.{sub_root}
use Rattle.plain_trees.proofs.trees.strip_name.Goals as goal

pub returns-in_default : goal.returns-in_default
returns-in_default c = sub_root c.args.path.now (search rules) c.args.name.now
