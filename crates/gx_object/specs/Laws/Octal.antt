-- The digits of a mode, written from the last to the first.
use Rattle.std.proofs.Common.{◌≡◌, ◌≢◌, ◌≤◌, ◌<◌, ◌+◌, ◌-◌, ◌^◌, ◌/◌, ◌%◌, ◌==◌, ◌∙◌, ℕ, zero, suc, true, false, List, ◌∷◌, length, drop, set, get_or-set_same, length-set, nat_lt, ne_eqb, drop_of_length-le, ap, refl, sym, arith}
use borrow.Author.Tests.{lt-ltb}
use Rattle.std.proofs.Math.Nat.{pow-suc}
use Rattle.std.proofs.Math.Seq.{drop-cons}
use Rattle.std.proofs.lemmas.List.{drop-set-lt}
use Rattle.std.specs.Fmt.{digits, digits_onto, digit_glyph}

-- before the first step nothing is written
pub octal_start : (n : ℕ) (out : List ℕ) → length out ≡ 6 → digits_onto 64 8 false n (drop 6 out) ≡ digits 8 false n
unfolding digits
octal_start n out six = ap (digits_onto 64 8 false n) (drop_of_length-le out {i = 6} (omega arith))

octal_glyph : (d : ℕ) → d < 8 → digit_glyph false d ≡ 48 + d
octal_glyph d small = let test : nat_lt d 10 ≡ true = lt-ltb d 10 (omega arith) in rw test refl

-- where digits are left, the last one comes before those that are written
octal_more : (fuel n : ℕ) (written : List ℕ) → n / 8 ≢ 0 → digits_onto (suc fuel) 8 false n written ≡ digits_onto fuel 8 false (n / 8) ((48 + n % 8) ∷ written)
octal_more fuel n written more =
    let test : (n / 8 == 0) ≡ false = ne_eqb (n / 8) 0 more in
    let glyph = octal_glyph (n % 8) (omega arith) in rw test (ap (λ (g : ℕ). digits_onto fuel 8 false (n / 8) (g ∷ written)) glyph)

octal_written : (out : List ℕ) (j digit : ℕ) → j < length out → drop j (set out j digit) ≡ digit ∷ drop (suc j) out
octal_written out j digit within =
    let fits : j < length (set out j digit) = rw length-set within in
    let after : j < suc j = omega arith in
    drop-cons (set out j digit) j 0 fits ∙ rw (get_or-set_same, drop-set-lt (suc j) out j digit after) refl

-- a step writes the last digit that is left
pub octal_step : (n at : ℕ) (out : List ℕ) → length out ≡ 6 → 0 < at → at ≤ 6 → n / 8 ≢ 0 → digits_onto (at - 1 + 58) 8 false (n / 8) (drop (at - 1) (set out (at - 1) (48 + n % 8))) ≡ digits_onto (at + 58) 8 false n (drop at out)
octal_step n zero out six some within more = absurd (omega arith)
octal_step n (suc j) out six some within more =
    let before : suc j - 1 ≡ j = omega arith in
    let fuel : suc j + 58 ≡ suc (j + 58) = omega arith in
    rw (before, fuel, octal_written out j (48 + n % 8) (omega arith)) (sym (octal_more (j + 58) n (drop (suc j) out) more))

-- a number that has at most this many digits has one less without its last
pub octal_fits : (n at : ℕ) → 0 < at → n < 8 ^ at → n / 8 < 8 ^ (at - 1)
octal_fits n zero some fits = absurd (omega arith)
octal_fits n (suc k) some fits = let e = pow-suc 8 k in let same : suc k - 1 ≡ k = omega arith in rw same (omega (arith, e))

pub octal_left : (n at : ℕ) → n < 8 ^ at → n ≢ 0 → 0 < at
octal_left n zero fits some = absurd (some (omega arith))
octal_left n (suc k) fits some = omega arith
