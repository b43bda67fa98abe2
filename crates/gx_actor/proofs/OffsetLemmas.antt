-- How the offset of a date is read.
use Rattle.std.proofs.Common.{◌≡◌, ◌+◌, ◌-◌, ◌*◌, ◌<◌, ◌≤◌, ◌∙◌, ◌==◌, ◌&&◌, ◌||◌, ℕ, ℤ, pos, neg_ℤ, Bool, true, false, List, [], ◌∷◌, ◌++◌, length, refl, sym, ap, subst, inl, inr, arith, if◌then◌else◌}
use Rattle.std.specs.Char.{digit_value, is_ascii_digit}
use Rattle.std.proofs.lemmas.Bool.{and_parts, and_from, or_cases, eqb-true}
use Rattle.std.proofs.lemmas.Bool.Decides.{nat_tests}
use Rattle.std.proofs.lemmas.Str.{digit_value_digit}
use Rattle.std.proofs.lemmas.Str.Parse.{digit_from_value}
use Rattle.gx_object.specs.TimeSpelling.{SpellsTwoDigits, HasSign, SpellsOffset}
use Rattle.gx_actor.specs.Offset.{is_offset, offset_of}

-- a digit and its value
record IsDigit (byte : ℕ) : Type 0 where
  value : digit_value byte ≡ byte - 48
  small : digit_value byte < 10

digit_is : (byte : ℕ) → is_ascii_digit byte ≡ true → IsDigit byte
digit_is byte is =
    let low : 48 ≤ byte = grind (arith, nat_tests) in
    let high : byte ≤ 57 = grind (arith, nat_tests) in
    let value = digit_value_digit byte (low, high) in
    record { value = omega arith; small = omega arith }

is_digit : (byte : ℕ) → digit_value byte < 10 → is_ascii_digit byte ≡ true
is_digit byte small =
    let low : 48 ≤ byte = (digit_from_value byte small).0 in
    let high : byte ≤ 57 = (digit_from_value byte small).1 in
    grind (arith, nat_tests)

two_digits : (a b : ℕ) → is_ascii_digit a ≡ true → is_ascii_digit b ≡ true → SpellsTwoDigits (a ∷ b ∷ []) (10 * (a - 48) + (b - 48))
two_digits a b tens ones =
    let x = digit_is a tens in
    let y = digit_is b ones in
    (refl, ((omega arith, (x.small, (y.small, tt))), omega arith))

-- a sign says on which side of UTC the offset is
sign_step : (sign seconds : ℕ) (t : Bool) → (sign == 45) ≡ t → (sign == 43 || t) ≡ true → HasSign sign seconds (if t then neg_ℤ (pos seconds) else pos seconds)
sign_step sign seconds true minus is = inr (eqb-true sign 45 minus, refl)
sign_step sign seconds false minus is =
    elim (or_cases (sign == 43) false is) [
      | inl plus ↦ inl (eqb-true sign 43 plus, refl)
      | inr never ↦ cc
    ]

five_long : (text : List ℕ) → is_offset text ≡ true → length text ≡ 5
five_long text is = eqb-true _ _ (and_parts _ _ (and_parts _ _ is).0).0

five_read : (sign a b c d : ℕ) → is_offset (sign ∷ a ∷ b ∷ c ∷ d ∷ []) ≡ true → SpellsOffset (sign ∷ a ∷ b ∷ c ∷ d ∷ []) (offset_of (sign ∷ a ∷ b ∷ c ∷ d ∷ []))
five_read sign a b c d is =
    let parts = and_parts (is_ascii_digit a && (is_ascii_digit b && (is_ascii_digit c && (is_ascii_digit d && true)))) (sign == 43 || sign == 45) is in
    let first = and_parts (is_ascii_digit a) (is_ascii_digit b && (is_ascii_digit c && (is_ascii_digit d && true))) parts.0 in
    let second = and_parts (is_ascii_digit b) (is_ascii_digit c && (is_ascii_digit d && true)) first.1 in
    let third = and_parts (is_ascii_digit c) (is_ascii_digit d && true) second.1 in
    let fourth = and_parts (is_ascii_digit d) true third.1 in
    record {
      sign = sign;
      hours_text = a ∷ b ∷ [];
      minutes_text = c ∷ d ∷ [];
      hours = 10 * (a - 48) + (b - 48);
      minutes = 10 * (c - 48) + (d - 48);
      whole = refl;
      hours_spelled = two_digits a b first.0 second.0;
      minutes_spelled = two_digits c d third.0 fourth.0;
      signed = sign_step sign (3600 * (10 * (a - 48) + (b - 48)) + 60 * (10 * (c - 48) + (d - 48))) (sign == 45) refl parts.1;
    }

-- what is read of an offset
pub offset_read : (text : List ℕ) → is_offset text ≡ true → SpellsOffset text (offset_of text)
offset_read [] is = let long = five_long [] is in absurd (omega arith)
offset_read (s ∷ []) is = let long = five_long (s ∷ []) is in absurd (omega arith)
offset_read (s ∷ a ∷ []) is = let long = five_long (s ∷ a ∷ []) is in absurd (omega arith)
offset_read (s ∷ a ∷ b ∷ []) is = let long = five_long (s ∷ a ∷ b ∷ []) is in absurd (omega arith)
offset_read (s ∷ a ∷ b ∷ c ∷ []) is = let long = five_long (s ∷ a ∷ b ∷ c ∷ []) is in absurd (omega arith)
offset_read (s ∷ a ∷ b ∷ c ∷ d ∷ []) is = five_read s a b c d is
offset_read (s ∷ a ∷ b ∷ c ∷ d ∷ e ∷ more) is =
    let long = five_long (s ∷ a ∷ b ∷ c ∷ d ∷ e ∷ more) is in absurd (omega arith)

signed_is : (sign seconds : ℕ) (offset : ℤ) → HasSign sign seconds offset → ((sign == 43 || sign == 45) ≡ true) × (offset ≡ (if sign == 45 then neg_ℤ (pos seconds) else pos seconds))
signed_is sign seconds offset (inl plus) = rw plus.0 (refl, plus.1)
signed_is sign seconds offset (inr minus) = rw minus.0 (refl, minus.1)

-- a text of two bytes
two_of : (text : List ℕ) → length text ≡ 2 → (a : ℕ) × (b : ℕ) × (text ≡ a ∷ b ∷ [])
two_of [] two = absurd (omega arith)
two_of (a ∷ []) two = absurd (omega arith)
two_of (a ∷ b ∷ []) two = (a, b, refl)
two_of (a ∷ b ∷ c ∷ more) two = absurd (omega arith)

record IsTwoDigits (a b number : ℕ) : Type 0 where
  tens : is_ascii_digit a ≡ true
  ones : is_ascii_digit b ≡ true
  value : number ≡ 10 * (a - 48) + (b - 48)

two_digits_of : (a b number : ℕ) → SpellsTwoDigits (a ∷ b ∷ []) number → IsTwoDigits a b number
two_digits_of a b number spelled =
    let tens = is_digit a spelled.1.0.1.0 in
    let ones = is_digit b spelled.1.0.1.1.0 in
    let x = (digit_is a tens).value in
    let y = (digit_is b ones).value in
    let value = spelled.1.1 in
    record { tens = tens; ones = ones; value = omega arith }

-- what an offset is, as it is read
pub record IsRead (text : List ℕ) (offset : ℤ) : Type 0 where
  pub form : is_offset text ≡ true
  pub value : offset ≡ offset_of text

five_spelled : (sign a b c d hours minutes : ℕ) (offset : ℤ) → SpellsTwoDigits (a ∷ b ∷ []) hours → SpellsTwoDigits (c ∷ d ∷ []) minutes → HasSign sign (3600 * hours + 60 * minutes) offset → IsRead (sign ∷ a ∷ b ∷ c ∷ d ∷ []) offset
five_spelled sign a b c d hours minutes offset h m signed =
    let x = two_digits_of a b hours h in
    let y = two_digits_of c d minutes m in
    let is = signed_is sign (3600 * hours + 60 * minutes) offset signed in
    let same : 3600 * hours + 60 * minutes ≡ 3600 * (10 * (a - 48) + (b - 48)) + 60 * (10 * (c - 48) + (d - 48)) = omega (arith, x.value, y.value) in
    let digits = and_from (is_ascii_digit a) (is_ascii_digit b && (is_ascii_digit c && (is_ascii_digit d && true))) x.tens
    (and_from (is_ascii_digit b) (is_ascii_digit c && (is_ascii_digit d && true)) x.ones
    (and_from (is_ascii_digit c) (is_ascii_digit d && true) y.tens (and_from (is_ascii_digit d) true y.ones refl))) in
    record {
      form = and_from _ _ digits is.0;
      value = is.1 ∙ ap (λ n. if sign == 45 then neg_ℤ (pos n) else pos n) same;
    }

pub offset_is_read : (text : List ℕ) (offset : ℤ) → SpellsOffset text offset → IsRead text offset
offset_is_read text offset spelled =
    let h = two_of spelled.hours_text spelled.hours_spelled.0 in
    let m = two_of spelled.minutes_text spelled.minutes_spelled.0 in
    let whole : text ≡ spelled.sign ∷ h.0 ∷ h.1 ∷ m.0 ∷ m.1 ∷ [] =
    spelled.whole ∙ ap (λ (x : List ℕ). spelled.sign ∷ x ++ spelled.minutes_text) h.2 ∙ ap (λ (x : List ℕ). spelled.sign ∷ h.0 ∷ h.1 ∷ x) m.2 in
    let hours = subst (λ (x : List ℕ). SpellsTwoDigits x spelled.hours) h.2 spelled.hours_spelled in
    let minutes = subst (λ (x : List ℕ). SpellsTwoDigits x spelled.minutes) m.2 spelled.minutes_spelled in
    subst (λ (x : List ℕ). IsRead x offset) (sym whole) (five_spelled spelled.sign h.0 h.1 m.0 m.1 spelled.hours spelled.minutes offset hours minutes spelled.signed)

-- and what is not read is none
pub offset_unread : (text : List ℕ) → is_offset text ≡ false → (offset : ℤ) → ¬ SpellsOffset text offset
offset_unread text none offset spelled = let is = (offset_is_read text offset spelled).form in cc

-- a text is one offset at most
pub offset_once : (text : List ℕ) (a b : ℤ) → SpellsOffset text a → SpellsOffset text b → a ≡ b
offset_once text a b p q = (offset_is_read text a p).value ∙ sym (offset_is_read text b q).value
