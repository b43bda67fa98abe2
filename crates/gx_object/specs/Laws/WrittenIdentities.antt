-- What is written of an identity spells it.
use Rattle.std.proofs.Common.{◌≡◌, ◌≢◌, sym, ap, refl, subst, ℕ, zero, suc, ℤ, pos, negsuc, neg_ℤ, ◌+◌, ◌*◌, ◌<◌, ◌≤◌, ◌^◌, ◌/◌, ◌%◌, ◌==◌, ◌&&◌, not, true, false, Bool, nat_lt, List, [], ◌∷◌, ◌++◌, length, decimal, arith, append_assoc, ◌⊎◌, inl, inr, FitsSigned, unsigned_abs, w64}
use Rattle.std.specs.Fmt.{signed_decimal}
use Rattle.std.specs.Int.{IsInRange}
use Rattle.std.specs.Prelude.{Contains}
use Rattle.std.specs.Str.Parse.{AllDigits, IsNumeral, digits_value}
use Rattle.std.proofs.lemmas.Bool.{and_parts, cases_Bool}
use Rattle.std.proofs.lemmas.Bool.Decides.{eqb_tells, nat_tests}
use Rattle.std.proofs.lemmas.Fmt.{decimal_is_IsNumeral, decimal_digit, length-decimal-le, decimal_nonempty}
use Rattle.std.proofs.lemmas.Int.Digits.{digits_value-lt}
use Rattle.std.proofs.lemmas.Str.Parse.{digit_from_value}
use Rattle.gx_object.specs.declared.signature.Signature.{Signature}
use Rattle.gx_object.specs.declared.signature.Time.{Time}
use Rattle.gx_object.specs.Identity.{two_digits, sign_of, offset_bytes, time_bytes, identity_bytes, is_writable_text, is_writable_offset, is_writable_identity}
use Rattle.gx_object.specs.IdentitySpelling.{SpellsIdentity}
use Rattle.gx_object.specs.CommitSpelling.{IsOneLine}
use Rattle.gx_object.specs.TimeSpelling.{SpellsTwoDigits, SpellsSeconds, HasSign, SpellsOffset, SpellsTime}
use Rattle.gx_object.specs.WrittenText.{written_identity, HasSeconds, IsWholeMinutes, CanWriteIdentity}
use Rattle.gx_object.specs.Laws.LineLemmas.{Without, without_append}

-- Digits.
small : (offset : ℤ) → is_writable_offset offset ≡ true → unsigned_abs offset < 360000
small offset p = grind (arith, nat_tests, p)

decimal_of : (n : ℕ) → n < 2 ^ 64 → IsNumeral 10 (decimal n) × (digits_value 10 (decimal n) ≡ n)
decimal_of n p = decimal_is_IsNumeral n p

two_long : (n : ℕ) → 10 ≤ n → n < 100 → length (decimal n) ≡ 2
two_long n low high =
    let wide : n < 2 ^ 64 = omega (arith, high) in
    let most : length (decimal n) ≤ 2 = length-decimal-le 2 n (omega arith) (omega (arith, high)) wide in
    let some = decimal_nonempty n wide in
    let d = decimal_of n wide in
    let below : n < 10 ^ length (decimal n) = subst (λ v. v < 10 ^ length (decimal n)) d.1 (digits_value-lt 10 (decimal n) d.0.1) in
    two (length (decimal n)) most some below
  where
    two : (k : ℕ) → k ≤ 2 → 0 < k → n < 10 ^ k → k ≡ 2
    two zero p q r = absurd (omega (arith, q))
    two (suc zero) p q r = absurd (omega (arith, low, r))
    two (suc (suc zero)) p q r = refl
    two (suc (suc (suc k))) p q r = absurd (omega (arith, p))

one_more : (n : ℕ) → n < 10 → SpellsTwoDigits (48 ∷ decimal n) n
one_more n p =
    let d = decimal_of n (omega (arith, p)) in
    let one : length (decimal n) ≡ 1 = ap length (decimal_digit n p) in
    (omega (arith, one), ((omega arith, (omega arith, d.0.1)), d.1))

pub spells_two : (n : ℕ) → n < 100 → SpellsTwoDigits (two_digits n) n
spells_two n p = by_size (nat_lt n 10) refl
  where
    by_size : (b : Bool) → nat_lt n 10 ≡ b → SpellsTwoDigits (two_digits n) n
    by_size true e = rw e (one_more n (grind (arith, nat_tests, e)))
    by_size false e =
        let low : 10 ≤ n = grind (arith, nat_tests, e) in
        rw e (two_long n low p, decimal_of n (omega (arith, p)))

-- The moment.
pub seconds_spelled : (z : ℤ) → FitsSigned w64 z → SpellsSeconds (signed_decimal z) z
seconds_spelled (pos n) p = (p, inl (n, decimal_of n (omega (arith, p)), refl))
seconds_spelled (negsuc n) p = (p, inr (decimal (suc n), suc n, refl, decimal_of (suc n) (omega (arith, p)), refl))

signed_by : (offset : ℤ) (seconds : ℕ) → seconds ≡ unsigned_abs offset → HasSign (sign_of offset) seconds offset
signed_by (pos n) seconds e = inl (refl, ap pos (sym e))
signed_by (negsuc n) seconds e = inr (refl, ap (λ k. neg_ℤ (pos k)) (sym e))

pub offset_spelled : (offset : ℤ) → unsigned_abs offset < 360000 → IsWholeMinutes offset → SpellsOffset (offset_bytes offset) offset
unfolding offset_bytes
offset_spelled offset p whole =
    let n = unsigned_abs offset in
    record {
      sign = sign_of offset;
      hours_text = two_digits (n / 3600);
      minutes_text = two_digits (n / 60 % 60);
      hours = n / 3600;
      minutes = n / 60 % 60;
      whole = refl;
      hours_spelled = spells_two (n / 3600) (omega (arith, p));
      minutes_spelled = spells_two (n / 60 % 60) (omega arith);
      signed = signed_by offset (3600 * (n / 3600) + 60 * (n / 60 % 60)) (omega (arith, whole));
    }

pub time_spelled : (time : Time) → HasSeconds time → is_writable_offset time.offset ≡ true → IsWholeMinutes time.offset → SpellsTime (time_bytes time) time
time_spelled time fits writable whole = record {
  seconds_text = signed_decimal time.seconds;
  offset_text = offset_bytes time.offset;
  whole = refl;
  seconds = seconds_spelled time.seconds fits;
  offset = offset_spelled time.offset (small time.offset writable) whole;
}

-- No byte of it separates fields or lines.
abbrev NoDigit : ℕ → Type 0
NoDigit c = (c < 43) ⊎ (57 < c)

digits_without : (c : ℕ) → NoDigit c → (text : List ℕ) → AllDigits 10 text → Without c text
digits_without c out [] p = tt
digits_without c out (b ∷ bs) p =
    let r : IsInRange 48 57 b = digit_from_value b p.0 in
    ((λ e. elim out [ inl h ↦ absurd (omega (arith, h, r.0, e)) | inr h ↦ absurd (omega (arith, h, r.1, e)) ]), digits_without c out bs p.1)

seconds_without : (c : ℕ) → NoDigit c → (z : ℤ) → FitsSigned w64 z → Without c (signed_decimal z)
seconds_without c out (pos n) p = digits_without c out (decimal n) (decimal_of n (omega (arith, p))).0.1
seconds_without c out (negsuc n) p = ((λ e. elim out [ inl h ↦ absurd (omega (arith, h, e)) | inr h ↦ absurd (omega (arith, h, e)) ]), digits_without c out (decimal (suc n)) (decimal_of (suc n) (omega (arith, p))).0.1)

sign_without : (c : ℕ) → NoDigit c → (offset : ℤ) → sign_of offset ≢ c
sign_without c (inl h) (pos n) e = absurd (omega (arith, h, e))
sign_without c (inr h) (pos n) e = absurd (omega (arith, h, e))
sign_without c (inl h) (negsuc n) e = absurd (omega (arith, h, e))
sign_without c (inr h) (negsuc n) e = absurd (omega (arith, h, e))

offset_without : (c : ℕ) → NoDigit c → (offset : ℤ) → unsigned_abs offset < 360000 → Without c (offset_bytes offset)
unfolding offset_bytes
offset_without c out offset p =
    let n = unsigned_abs offset in
    (sign_without c out offset, without_append c (two_digits (n / 3600)) (two_digits (n / 60 % 60)) (digits_without c out (two_digits (n / 3600)) (spells_two (n / 3600) (omega (arith, p))).1.0.1) (digits_without c out (two_digits (n / 60 % 60)) (spells_two (n / 60 % 60) (omega arith)).1.0.1))

time_without : (c : ℕ) → NoDigit c → c ≢ 32 → (time : Time) → HasSeconds time → is_writable_offset time.offset ≡ true → Without c (time_bytes time)
time_without c out other time fits writable =
    without_append c (signed_decimal time.seconds) (32 ∷ offset_bytes time.offset) (seconds_without c out time.seconds fits)
    ((λ e. other (sym e)), offset_without c out time.offset (small time.offset writable))

-- Names and emails.
writable_byte : (b : ℕ) → (not (b == 60) && not (b == 62) && not (b == 10)) ≡ true → (b ≢ 60) × (b ≢ 10)
writable_byte b p = elim (eqb_tells b 60) [
  | inl h ↦ let q : false ≡ true = rw h.0 at p in absurd (cc)
  | inr h ↦ elim (eqb_tells b 62) [
    | inl k ↦ let q : false ≡ true = rw (h.0, k.0) at p in absurd (cc)
    | inr k ↦ elim (eqb_tells b 10) [
      | inl l ↦ let q : false ≡ true = rw (h.0, k.0, l.0) at p in absurd (cc)
      | inr l ↦ (h.1, l.1)
    ]
  ]
]

writable_open : (text : List ℕ) → is_writable_text text ≡ true → Without 60 text × Without 10 text
writable_open [] p = (tt, tt)
writable_open (b ∷ bs) p =
    let parts = and_parts _ _ p in
    let here = writable_byte b parts.0 in
    let rest = writable_open bs parts.1 in
    ((here.0, rest.0), (here.1, rest.1))

not_contained : (c : ℕ) (text : List ℕ) → Without c text → Contains text c → ⊥
not_contained c [] p h = absurd (omega (arith, h.1))
not_contained c (b ∷ bs) p (zero, within, is) = p.0 is
not_contained c (b ∷ bs) p (suc k, within, is) = not_contained c bs p.1 (k, omega (arith, within), is)

record Parts (who : Signature) : Type 0 where
  name : is_writable_text who.name ≡ true
  email : is_writable_text who.email ≡ true
  offset : is_writable_offset who.time.offset ≡ true

parts_of : (who : Signature) → is_writable_identity who ≡ true → Parts who
parts_of who p = elim (cases_Bool (is_writable_text who.name)) [
  | inl n ↦ elim (cases_Bool (is_writable_text who.email)) [
    | inl e ↦ record { name = n; email = e; offset = rw (n, e) at p }
    | inr e ↦ let q : false ≡ true = rw (n, e) at p in absurd (cc)
  ]
  | inr n ↦ let q : false ≡ true = rw n at p in absurd (cc)
]

identity_whole : (who : Signature) → identity_bytes who ≡ (who.name ++ 32 ∷ []) ++ 60 ∷ who.email ++ 62 ∷ (32 ∷ time_bytes who.time)
unfolding identity_bytes
identity_whole who = simp append_assoc

pub identity_spelled : (who : Signature) → CanWriteIdentity who → SpellsIdentity (identity_bytes who) (written_identity who)
identity_spelled who can =
    let p = parts_of who can.fields in
    record {
      before = who.name ++ 32 ∷ [];
      behind = 32 ∷ time_bytes who.time;
      whole = identity_whole who;
      opens = not_contained 60 (who.name ++ 32 ∷ []) (without_append 60 who.name (32 ∷ []) (writable_open who.name p.name).0 (omega arith, tt));
      closes = not_contained 62 (32 ∷ time_bytes who.time) (omega arith, time_without 62 (inr (omega arith)) (omega arith) who.time can.seconds p.offset);
      name = inl refl;
      time = inl refl;
    }

pub identity_open : (who : Signature) → CanWriteIdentity who → IsOneLine (identity_bytes who)
identity_open who can =
    let p = parts_of who can.fields in
    subst IsOneLine (sym (identity_whole who))
    (without_append 10 ((who.name ++ 32 ∷ []) ++ 60 ∷ who.email) (62 ∷ 32 ∷ time_bytes who.time)
    (without_append 10 (who.name ++ 32 ∷ []) (60 ∷ who.email) (without_append 10 who.name (32 ∷ []) (writable_open who.name p.name).1 (omega arith, tt)) (omega arith, (writable_open who.email p.email).1))
    (omega arith, (omega arith, time_without 10 (inl (omega arith)) (omega arith) who.time can.seconds p.offset)))
