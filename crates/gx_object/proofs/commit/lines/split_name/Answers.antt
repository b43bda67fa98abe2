use Rattle.std.proofs.Common.{arith}
use Rattle.gx_object.specs.Laws.LineLemmas.{no_name, name_at}
use Rattle.gx_object.proofs.commit.lines.split_name.Goals as goal

pub returns-in_err-at : goal.returns-in_err-at
returns-in_err-at c = rw c.from_residual.ensures (no_name c.args.line.now c.in_err-at.ensures)

pub returns : goal.returns
returns c = name_at c.args.line.now c.in_ok-at.at (omega arith) c.requires c.in_ok-at.ensures
