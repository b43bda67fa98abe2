use Rattle.gx_script.proofs.FieldLemmas.{no_pair, is_pair}
use Rattle.gx_script.proofs.split.pair.Goals as goal

pub returns-in_err-first : goal.returns-in_err-first
returns-in_err-first c = rw c.from_residual-in_err-first.ensures (no_pair c.args.word.now c.args.line.now c.in_ok-rest.rest.now c.in_ok-rest.ensures c.in_err-first.ensures)

pub returns : goal.returns
returns c = is_pair c.args.word.now c.args.line.now c.in_ok-rest.rest.now c.in_ok-first.first.now c.in_ok-first.rest.now c.in_ok-rest.ensures c.in_ok-first.ensures
