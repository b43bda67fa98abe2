use Rattle.gx_script.proofs.ChangeLemmas.{no_put, no_put_kind, no_put_size}
use Rattle.gx_script.proofs.change.put.Goals as goal

pub returns-in_err-word : goal.returns-in_err-word
returns-in_err-word c = rw c.from_residual.ensures (no_put c.args.line.now c.in_err-word.ensures)

pub returns-in_err-kind : goal.returns-in_err-kind
returns-in_err-kind c = rw c.from_residual-in_err-kind.ensures (no_put_kind c.args.line.now c.in_ok-word.word.now c.in_ok-word.digits.now c.in_ok-word.path.now c.in_ok-word.ensures c.in_err-kind.ensures)

pub returns-in_err-size : goal.returns-in_err-size
returns-in_err-size c = rw c.from_residual-in_err-size.ensures (no_put_size c.args.line.now c.in_ok-word.word.now c.in_ok-word.digits.now c.in_ok-word.path.now c.in_ok-word.ensures c.in_err-size.ensures)
