use Rattle.gx_store.proofs.LogLemmas.{found_nowhere, found_behind, found_at}
use Rattle.gx_store.proofs.log_line.decode.split_once.Goals as goal

pub returns-in_err-at : goal.returns-in_err-at
returns-in_err-at c = rw c.from_residual.ensures (found_nowhere c.args.byte c.args.text.now c.in_err-at.ensures)

pub returns : goal.returns
returns c =
    let at = c.in_ok-at.ensures in
    rw (c.split_at.ensures.front, c.split_at-2.ensures.back) (found_behind c.args.byte c.args.text.now c.in_ok-at.at at.0, found_at c.args.byte c.args.text.now c.in_ok-at.at at.0.high at.1)
