use Rattle.std.proofs.Common.{arith}
use Rattle.gx_object.proofs.Modes.{mode_fits, no_mode, mode_more}
use Rattle.gx_object.proofs.tree.decode.read_mode.Goals as goal

pub overflow_mul-mode : goal.overflow_mul-mode
overflow_mul-mode c =
    let before = c.loop-digit.invariant in
    let fits = mode_fits _ _ _ c.loop-digit-test.true before.short before.octal before.value in omega arith

pub returns-in_err-mode : goal.returns-in_err-mode
returns-in_err-mode c = rw c.from_residual.ensures (no_mode c.args.digits.now c.loop-digit.digit-index _ c.loop-digit-test.true c.from.ensures c.in_err-mode.ensures.value)

pub overflow_add-mode : goal.overflow_add-mode
overflow_add-mode c =
    let before = c.loop-digit.invariant in
    let fits = mode_fits _ _ _ c.loop-digit-test.true before.short before.octal before.value in
    let digit = c.in_ok-mode.ensures.value in omega (arith, digit.0, digit.1)

pub loop-digit-preserved : goal.loop-digit-preserved
loop-digit-preserved c =
    let before = c.loop-digit.invariant in
    let digit = c.in_ok-mode.ensures.value in
    let more = mode_more c.args.digits.now c.loop-digit.digit-index _ _ _ c.loop-digit-test.true c.from.ensures digit.0 digit.1 before.octal before.value in record {
      some = before.some;
      short = before.short;
      octal = more.0;
      value = more.1;
    }
