use Rattle.gx_object.specs.Laws.LineLemmas.{no_line, line_at}
use Rattle.gx_object.proofs.commit.lines.split_line.Goals as goal

pub returns-in_err-at : goal.returns-in_err-at
returns-in_err-at c = rw c.from_residual.ensures (no_line c.args.bytes.now c.in_err-at.ensures)

pub returns : goal.returns
returns c = line_at c.args.bytes.now c.in_ok-at.at c.in_ok-at.ensures
