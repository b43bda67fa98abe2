use Rattle.gx_script.proofs.FieldLemmas.{no_triple_first, no_triple, is_triple}
use Rattle.gx_script.proofs.split.triple.Goals as goal

pub returns-in_err-first : goal.returns-in_err-first
returns-in_err-first c = rw c.from_residual.ensures (no_triple_first c.args.word.now c.args.line.now c.in_err-first.ensures)

pub returns-in_err-second : goal.returns-in_err-second
returns-in_err-second c = rw c.from_residual-in_err-second.ensures (no_triple c.args.word.now c.args.line.now c.in_ok-first.first.now c.in_ok-first.rest.now c.in_ok-first.ensures c.in_err-second.ensures)

pub returns : goal.returns
returns c = is_triple c.args.word.now c.args.line.now c.in_ok-first.first.now c.in_ok-first.rest.now c.in_ok-second.second.now c.in_ok-second.rest.now c.in_ok-first.ensures c.in_ok-second.ensures
