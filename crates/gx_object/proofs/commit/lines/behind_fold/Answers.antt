use Rattle.gx_object.specs.Laws.LineLemmas.{no_fold, no_line_fold}
use Rattle.gx_object.proofs.commit.lines.behind_fold.Goals as goal

pub returns-in_err-line : goal.returns-in_err-line
returns-in_err-line c = rw c.from_residual.ensures (no_line_fold c.args.bytes.now c.in_err-line.ensures)

pub returns-in_err-after : goal.returns-in_err-after
returns-in_err-after c = rw c.from_residual-in_err-after.ensures (no_fold c.args.bytes.now c.in_ok-line.line.now c.in_ok-line.rest.now c.in_ok-line.ensures c.in_err-after.ensures)
