-- How modes are read.
use Rattle.std.proofs.Common.{◌≡◌, ◌≤◌, ◌<◌, ◌+◌, ◌*◌, ◌^◌, ◌∙◌, ℕ, zero, suc, List, [], ◌∷◌, length, take, get_or, ap, sym, arith}
use Rattle.std.specs.Char.{digit_value}
use Rattle.std.specs.Str.Parse.{AllDigits, digits_value}
use Rattle.std.proofs.lemmas.Int.Digits.{digits_value-lt, digits_value_more, digits_more}
use Rattle.std.proofs.lemmas.List.{length-take-le}
use Rattle.std.proofs.Math.Nat.{pow-le-pow_right}
use Rattle.gx_object.specs.TreeSpelling.{SpellsMode}

-- five octal digits spell less than 8 ^ 5
pub mode_fits : (digits : List ℕ) (at mode : ℕ) → at < length digits → length digits ≤ 6 → AllDigits 8 (take at digits) → digits_value 8 (take at digits) ≡ mode → mode < 32768
mode_fits digits at mode within short octal value =
    let long : length (take at digits) ≡ at = length-take-le at digits (omega arith) in
    let some : 0 < 8 = omega arith in
    let most : length (take at digits) ≤ 5 = omega arith in
    let room : 8 ^ length (take at digits) ≤ 32768 = pow-le-pow_right some most in
    omega (arith, digits_value-lt 8 (take at digits) octal)

digit_within : (radix : ℕ) (digits : List ℕ) (i : ℕ) → AllDigits radix digits → i < length digits → digit_value (get_or digits i 0) < radix
digit_within radix [] i all within = absurd (omega arith)
digit_within radix (c ∷ cs) zero all within = all.0
digit_within radix (c ∷ cs) (suc i) all within = digit_within radix cs i all.1 (omega arith)

-- a byte that is no octal digit is in no mode
pub no_mode : (digits : List ℕ) (i byte : ℕ) → i < length digits → byte ≡ get_or digits i 0 → (digit_value byte < 8 → ⊥) → (mode : ℕ) → ¬ SpellsMode digits mode
no_mode digits i byte within is other mode spelled = other (rw is (digit_within 8 digits i spelled.number.0.1 within))

pub mode_more : (digits : List ℕ) (i byte mode digit : ℕ) → i < length digits → byte ≡ get_or digits i 0 → digit_value byte < 8 → digit ≡ digit_value byte → AllDigits 8 (take i digits) → digits_value 8 (take i digits) ≡ mode → AllDigits 8 (take (i + 1) digits) × (digits_value 8 (take (i + 1) digits) ≡ mode * 8 + digit)
mode_more digits i byte mode digit within is small shows octal value =
    let here : digit_value (get_or digits i 0) ≡ digit = ap digit_value (sym is) ∙ sym shows in (
      digits_more 8 digits i within octal (rw (← is) small),
      digits_value_more 8 digits i within ∙ ap (λ x. x * 8 + digit_value (get_or digits i 0)) value ∙ ap (λ x. mode * 8 + x) here,
    )
