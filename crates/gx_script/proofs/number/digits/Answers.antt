use Rattle.std.proofs.Common.{arith, ap, subst, ◌∙◌, get_or}
use Rattle.std.specs.Str.Parse.{AllDigits, digits_value}
use Rattle.std.proofs.lemmas.List.{take_all}
use Rattle.std.proofs.lemmas.Str.{digit_value_digit}
use Rattle.std.proofs.lemmas.Int.Digits.{digits_more}
use Rattle.gx_script.proofs.NumberLemmas.{no_digit, no_large, is_number, digit_more}
use Rattle.gx_script.proofs.number.digits.Goals as goal

pub returns-then-not-is_ascii_digit : goal.returns-then-not-is_ascii_digit
returns-then-not-is_ascii_digit c = no_digit c.args.bytes.now c.loop-b.b-index (omega arith) (λ h. absurd (grind (arith, h, c.if-not-is_ascii_digit.ensures.cases)))

pub returns-in-None : goal.returns-in-None
returns-in-None c = no_large c.args.bytes.now c.loop-b.b-index c.loop-b.value _ (omega arith) c.loop-b.invariant.value (omega (arith, digit_value_digit (get_or c.args.bytes.now c.loop-b.b-index 0) c.if-not-is_ascii_digit.ensures.cases)) c.in-None.ensures

pub loop-b-preserved : goal.loop-b-preserved
loop-b-preserved c = record {
  value = digit_more c.args.bytes.now c.loop-b.b-index c.loop-b.value _ c.in-Some.value (omega arith) c.loop-b.invariant.value (omega (arith, digit_value_digit (get_or c.args.bytes.now c.loop-b.b-index 0) c.if-not-is_ascii_digit.ensures.cases)) c.in-Some.ensures.1;
  digits = digits_more 10 c.args.bytes.now c.loop-b.b-index (omega arith) c.loop-b.invariant.digits c.if-not-is_ascii_digit.ensures.bound;
  fits = omega (arith, c.in-Some.ensures.0, c.in-Some.ensures.1);
}

pub returns : goal.returns
returns c = is_number c.args.bytes.now c.loop-b.value c.requires.some c.requires.first (subst (AllDigits 10) (take_all c.loop-b.b-index c.args.bytes.now (omega arith)) c.loop-b.invariant.digits) (c.loop-b.invariant.value ∙ ap (digits_value 10) (take_all c.loop-b.b-index c.args.bytes.now (omega arith))) (omega arith)
