use Rattle.gx_object.specs.Laws.Splits.{lacks_nowhere, lacks_in_front, cut_at}
use Rattle.gx_object.proofs.split.split_at_byte.Goals as goal

pub returns-in_err-at : goal.returns-in_err-at
returns-in_err-at c = rw c.from_residual.ensures (lacks_nowhere c.args.byte c.args.text.now c.in_err-at.ensures)

pub returns : goal.returns
returns c =
    let at = c.in_ok-at.ensures in
    rw (c.split_at.ensures.front, c.split_at-2.ensures.back) (cut_at c.args.byte c.args.text.now c.in_ok-at.at at.0.high at.1, lacks_in_front c.args.byte c.args.text.now c.in_ok-at.at at.0)
