use Rattle.gx_object.proofs.commit.lines.id_of.Goals as goal

pub from_digits-requires : goal.from_digits-requires
from_digits-requires c = (c.args.hash, c.requires)

pub returns-clause-kind : goal.returns-clause-kind
returns-clause-kind c = c.from_digits.ensures.kind c.args.hash c.requires
