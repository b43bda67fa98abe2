-- Numbers in decimal digits.
use Rattle.std.proofs.Common.{◌≡◌, ◌≢◌, ◌∙◌, sym, ap, refl, subst, ℕ, zero, suc, ◌+◌, ◌-◌, ◌*◌, ◌^◌, ◌≤◌, ◌<◌, List, [], ◌∷◌, length, take, get_or, arith, rules, ℤ, pos, negsuc, Option, Some, None, FitsSigned, MatchOption, SomeIff}
use Rattle.std.specs.Int.{w32, w64}
use Rattle.std.specs.Fmt.{signed_decimal}
use Rattle.std.proofs.lemmas.Int.{ints}
use lib.Signed.{mag}
use Rattle.std.proofs.lemmas.Fmt.{signed_decimal_injective}
use Rattle.std.specs.Fmt.{decimal}
use Rattle.std.specs.Char.{digit_value}
use Rattle.std.specs.Str.Parse.{AllDigits, digits_value, digits_value_after}
use Rattle.std.proofs.lemmas.Fmt.{decimal_is_IsNumeral, decimal-digits_value, decimal_nonempty, decimal_injective, first_decimal, decimal_digit}
use Rattle.std.proofs.lemmas.Str.Parse.{IsNumeralModel, digit_at}
use Rattle.std.specs.Int.{IsInRange}
use Rattle.std.proofs.lemmas.Int.Digits.{digits_value_more}
use Rattle.gx_script.specs.Lines.{IsNoNumber, IsNoSigned, IsNotBehind}

own : IsNumeralModel (AllDigits 10) (digits_value 10)
own = record { to = λ ds p. p; from = λ ds p. p; same = λ ds p. refl }

pub no_empty : (bytes : List ℕ) → length bytes ≡ 0 → IsNoNumber bytes
no_empty bytes e n small is = absurd (omega (arith, decimal_nonempty n small, ap length is))

one_zero : (n : ℕ) → n < 2 ^ 64 → get_or (decimal n) 0 0 ≡ 48 → length (decimal n) ≡ 1
one_zero zero small e = ap length (decimal_digit 0 (omega arith))
one_zero (suc n) small e = absurd (omega (arith, first_decimal (suc n) (omega arith) small))

pub no_front_zero : (bytes : List ℕ) → get_or bytes 0 0 ≡ 48 → length bytes ≢ 1 → IsNoNumber bytes
no_front_zero bytes e ne n small is = ne (ap length is ∙ one_zero n small (sym (ap (λ b. get_or b 0 0) is) ∙ e))

pub only_zero : (bytes : List ℕ) → get_or bytes 0 0 ≡ 48 → length bytes ≡ 1 → bytes ≡ decimal 0
only_zero [] e l = absurd (omega arith)
only_zero (b ∷ []) e l = ap (λ x. x ∷ []) e ∙ sym (decimal_digit 0 (omega arith))
only_zero (b ∷ c ∷ bs) e l = absurd (omega arith)

pub no_digit : (bytes : List ℕ) (k : ℕ) → k < length bytes → (IsInRange 48 57 (get_or bytes k 0) → ⊥) → IsNoNumber bytes
no_digit bytes k lt ne n small is = ne (digit_at bytes k (subst (AllDigits 10) (sym is) (decimal_is_IsNumeral n small).0.1) lt)

after_ge : (m : ℕ) (ds : List ℕ) → m ≤ digits_value_after 10 m ds
after_ge m [] = omega arith
after_ge m (d ∷ ds) = omega (arith, after_ge (m * 10 + digit_value d) ds)

take_le : (k m : ℕ) (ds : List ℕ) → digits_value_after 10 m (take k ds) ≤ digits_value_after 10 m ds
take_le zero m ds = after_ge m ds
take_le (suc k) m [] = omega arith
take_le (suc k) m (d ∷ ds) = take_le k (m * 10 + digit_value d) ds

pub no_large : (bytes : List ℕ) (k value digit : ℕ) → k < length bytes → value ≡ digits_value 10 (take k bytes) → digit ≡ digit_value (get_or bytes k 0) → (value * 10 + digit < 2 ^ 64 → ⊥) → IsNoNumber bytes
no_large bytes k value digit lt v d large n small is =
    let more : digits_value 10 (take (k + 1) bytes) ≡ digits_value 10 (take k bytes) * 10 + digit_value (get_or bytes k 0) = digits_value_more 10 bytes k lt in
    let whole : digits_value 10 bytes ≡ n = ap (digits_value 10) is ∙ (decimal_is_IsNumeral n small).1 in
    let le : digits_value 10 (take (k + 1) bytes) ≤ digits_value 10 bytes = take_le (k + 1) 0 bytes in
    large (omega arith)

pub is_number : (bytes : List ℕ) (value : ℕ) → 0 < length bytes → get_or bytes 0 0 ≢ 48 → AllDigits 10 bytes → value ≡ digits_value 10 bytes → value < 2 ^ 64 → bytes ≡ decimal value
is_number bytes value some first all v small = sym (ap decimal v ∙ decimal-digits_value own bytes all some (λ e. absurd (first e)) (omega arith))

pub digit_more : (bytes : List ℕ) (k value digit next : ℕ) → k < length bytes → value ≡ digits_value 10 (take k bytes) → digit ≡ digit_value (get_or bytes k 0) → next ≡ value * 10 + digit → next ≡ digits_value 10 (take (k + 1) bytes)
digit_more bytes k value digit next lt v d e = omega (arith, digits_value_more 10 bytes k lt)

-- A number begins with no sign.
no_sign : (n : ℕ) (rest : List ℕ) → n < 2 ^ 64 → decimal n ≡ 45 ∷ rest → ⊥
no_sign n rest small e =
    let all : AllDigits 10 (45 ∷ rest) = subst (AllDigits 10) e (decimal_is_IsNumeral n small).0.1 in
    let h : 36 < 10 = all.0 in absurd (omega arith)

pub fits_pos : (n : ℕ) → FitsSigned w64 (pos n) → n < 2 ^ 63
fits_pos n fits = omega (arith, ints, fits)

pub fits_negsuc : (n : ℕ) → FitsSigned w64 (negsuc n) → n < 2 ^ 63
fits_negsuc n fits = omega (arith, ints, fits)

pub no_negative : (bytes digits : List ℕ) → bytes ≡ 45 ∷ digits → IsNoNumber digits → IsNoSigned w64 bytes
no_negative bytes digits is none (pos n) fits e = no_sign n digits (omega (arith, fits_pos n fits)) (sym e ∙ is)
no_negative bytes digits is none (negsuc n) fits e =
    let same : digits ≡ decimal (suc n) = cc in
    none (suc n) (omega (arith, fits_negsuc n fits)) same

no_large_negative : (bytes digits : List ℕ) (n : ℕ) → bytes ≡ 45 ∷ digits → digits ≡ decimal n → n < 2 ^ 64 → ((0 < n) × (n ≤ 2 ^ 63) → ⊥) → IsNoSigned w64 bytes
no_large_negative bytes digits n is e small large (pos m) fits f = no_sign m digits (omega (arith, fits_pos m fits)) (sym f ∙ is)
no_large_negative bytes digits n is e small large (negsuc m) fits f =
    let same : digits ≡ decimal (suc m) = cc in
    let k : n ≡ suc m = decimal_injective n (suc m) small (omega (arith, fits_negsuc m fits)) (sym e ∙ same) in
    large (omega arith, omega (arith, fits_negsuc m fits))

pub is_negative : (bytes digits : List ℕ) (n : ℕ) (r : Option ℤ) → bytes ≡ 45 ∷ digits → digits ≡ decimal n → n < 2 ^ 64 → SomeIff r ((0 < n) × (n ≤ 2 ^ 63)) (negsuc (n - 1)) → MatchOption r (IsNoSigned w64 bytes) (λ z. bytes ≡ signed_decimal z)
is_negative bytes digits n None is e small large = no_large_negative bytes digits n is e small large
is_negative bytes digits n (Some z) is e small found =
    let k : suc (n - 1) ≡ n = omega (arith, found.0.0) in
    is ∙ ap (λ l. 45 ∷ l) (e ∙ ap decimal (sym k)) ∙ ap signed_decimal (sym found.1)

pub no_positive : (bytes : List ℕ) → IsNotBehind (45 ∷ []) bytes → IsNoNumber bytes → IsNoSigned w64 bytes
no_positive bytes behind none (pos n) fits e = none n (omega (arith, fits_pos n fits)) e
no_positive bytes behind none (negsuc n) fits e = behind (decimal (suc n)) e

no_large_positive : (bytes : List ℕ) (n : ℕ) → IsNotBehind (45 ∷ []) bytes → bytes ≡ decimal n → n < 2 ^ 64 → (n < 2 ^ 63 → ⊥) → IsNoSigned w64 bytes
no_large_positive bytes n behind e small large (pos m) fits f =
    let k : n ≡ m = decimal_injective n m small (omega (arith, fits_pos m fits)) (sym e ∙ f) in
    large (omega (arith, fits_pos m fits))
no_large_positive bytes n behind e small large (negsuc m) fits f = behind (decimal (suc m)) f

pub is_positive : (bytes : List ℕ) (n : ℕ) (r : Option ℤ) → IsNotBehind (45 ∷ []) bytes → bytes ≡ decimal n → n < 2 ^ 64 → SomeIff r (n < 2 ^ 63) (pos n) → MatchOption r (IsNoSigned w64 bytes) (λ z. bytes ≡ signed_decimal z)
is_positive bytes n None behind e small large = no_large_positive bytes n behind e small large
is_positive bytes n (Some z) behind e small found = e ∙ ap signed_decimal (sym found.1)

pub mag_small : (z : ℤ) → FitsSigned w64 z → mag z < 2 ^ 63
mag_small (pos n) fits = fits_pos n fits
mag_small (negsuc n) fits = fits_negsuc n fits

pub wide : (z : ℤ) → FitsSigned w32 z → FitsSigned w64 z
wide z fits = search (rules, ints)

pub no_narrow : (bytes : List ℕ) → IsNoSigned w64 bytes → IsNoSigned w32 bytes
no_narrow bytes none z fits e = none z (wide z fits) e

pub is_narrow : (bytes : List ℕ) (z : ℤ) (r : Option ℤ) → FitsSigned w64 z → bytes ≡ signed_decimal z → SomeIff r (FitsSigned w32 z) z → MatchOption r (IsNoSigned w32 bytes) (λ z. bytes ≡ signed_decimal z)
is_narrow bytes z None fits e large = λ y small f.
    let same : y ≡ z = signed_decimal_injective y z (mag_small y (wide y small)) (mag_small z fits) (sym f ∙ e) in
    large (subst (FitsSigned w32) same small)
is_narrow bytes z (Some y) fits e found = e ∙ ap signed_decimal (sym found.1)
