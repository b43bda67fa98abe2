use Rattle.std.proofs.Common.{arith}
use Rattle.gx_script.proofs.NumberLemmas.{no_negative, is_negative, no_positive, is_positive}
use Rattle.gx_script.proofs.number.signed.Goals as goal

pub returns-in_err-number-in-Some : goal.returns-in_err-number-in-Some
returns-in_err-number-in-Some c = rw c.from_residual.ensures (no_negative c.args.bytes.now c.in-Some.digits.now c.in-Some.ensures c.in_err-number-in-Some.ensures)

pub returns-in_ok-number-in-Some : goal.returns-in_ok-number-in-Some
returns-in_ok-number-in-Some c = is_negative c.args.bytes.now c.in-Some.digits.now c.in_ok-number-in-Some.field-0 c.negative.result c.in-Some.ensures c.in_ok-number-in-Some.ensures (omega arith) c.negative.ensures

pub returns-in_err-number-in-None : goal.returns-in_err-number-in-None
returns-in_err-number-in-None c = rw c.from_residual-in_err-number-in-None.ensures (no_positive c.args.bytes.now c.in-None.ensures c.in_err-number-in-None.ensures)

pub returns-in_ok-number-in-None : goal.returns-in_ok-number-in-None
returns-in_ok-number-in-None c = is_positive c.args.bytes.now c.in_ok-number-in-None.field-0 c.positive.result c.in-None.ensures c.in_ok-number-in-None.ensures (omega arith) c.positive.ensures
