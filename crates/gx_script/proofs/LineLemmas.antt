-- Lines are cut at their first spaces and tabs.
use Rattle.std.proofs.Common.{◌≡◌, ◌≢◌, ◌∙◌, sym, ap, refl, subst, ℕ, ℤ, pos, negsuc, suc, ◌≤◌, ◌<◌, ◌^◌, List, [], ◌∷◌, ◌++◌, arith, FitsSigned, Bool, true, false, cond, nat_eq, inl, inr}
use Rattle.std.proofs.lemmas.Bool.Decides.{eqb_tells}
use Rattle.std.specs.Int.{w32, w64}
use Rattle.std.specs.Fmt.{decimal, signed_decimal}
use Rattle.std.specs.Char.{digit_value}
use Rattle.std.specs.Str.Parse.{AllDigits}
use Rattle.std.proofs.lemmas.Fmt.{decimal_is_IsNumeral, decimal_injective}
use Rattle.std.proofs.lemmas.List.{append_cancel_left}
use Rattle.gx_object.specs.declared.signature.Signature.{Signature}
use Rattle.gx_object.specs.declared.signature.Time.{Time}
use Rattle.gx_script.specs.Items.{Without, NoNewline, block_limit}
use Rattle.gx_script.specs.Fields.{IsIdentity}
use Rattle.gx_script.specs.Fields.{who_text}
use Rattle.gx_script.specs.Lines.{Splits, IsNoWho, IsNoSize, IsNoNumber, IsNoSigned, signature_of}
use Rattle.gx_script.proofs.NumberLemmas.{fits_pos, fits_negsuc, wide}

pub has_byte : (c : ℕ) (a x : List ℕ) → Without c (a ++ c ∷ x) → ⊥
has_byte c [] x p = p.0 refl
has_byte c (y ∷ a) x p = has_byte c a x p.1

pub same_split : (c : ℕ) (a b x y : List ℕ) → Without c a → Without c b → a ++ c ∷ x ≡ b ++ c ∷ y → (a ≡ b) × (x ≡ y)
same_split c [] [] x y p q e = (refl, cc)
same_split c [] (b ∷ bs) x y p q e = let h : c ≡ b = cc in absurd (q.0 (sym h))
same_split c (a ∷ as') [] x y p q e = let h : a ≡ c = cc in absurd (p.0 h)
same_split c (a ∷ as') (b ∷ bs) x y p q e =
    let t : as' ++ c ∷ x ≡ bs ++ c ∷ y = cc in
    let r : (as' ≡ bs) × (x ≡ y) = same_split c as' bs x y p.1 q.1 t in
    let rest : as' ≡ bs = r.0 in
    (cc, r.1)

pub without_append : (c : ℕ) (xs ys : List ℕ) → Without c xs → Without c ys → Without c (xs ++ ys)
without_append c [] ys p q = q
without_append c (x ∷ xs) ys p q = (p.0, without_append c xs ys p.1 q)

pub without_front : (c : ℕ) (xs ys : List ℕ) → Without c (xs ++ ys) → Without c xs
without_front c [] ys p = tt
without_front c (x ∷ xs) ys p = (p.0, without_front c xs ys p.1)

pub without_back : (c : ℕ) (xs ys : List ℕ) → Without c (xs ++ ys) → Without c ys
without_back c [] ys p = p
without_back c (x ∷ xs) ys p = without_back c xs ys p.1

digits_without : (c : ℕ) (ds : List ℕ) → (digit_value c < 10 → ⊥) → AllDigits 10 ds → Without c ds
digits_without c [] other p = tt
digits_without c (d ∷ ds) other p = ((λ e. other (subst (λ x. digit_value x < 10) e p.0)), digits_without c ds other p.1)

pub decimal_without : (c n : ℕ) → (digit_value c < 10 → ⊥) → n < 2 ^ 64 → Without c (decimal n)
decimal_without c n other small = digits_without c (decimal n) other (decimal_is_IsNumeral n small).0.1

signed_without : (c : ℕ) (z : ℤ) → (digit_value c < 10 → ⊥) → c ≢ 45 → FitsSigned w64 z → Without c (signed_decimal z)
signed_without c (pos n) other ne fits = decimal_without c n other (omega (arith, fits_pos n fits))
signed_without c (negsuc n) other ne fits = ((λ e. ne (sym e)), decimal_without c (suc n) other (omega (arith, fits_negsuc n fits)))

pub no_space : digit_value 32 < 10 → ⊥
no_space h = let k : 36 < 10 = h in absurd (omega arith)

pub no_line : digit_value 10 < 10 → ⊥
no_line h = let k : 36 < 10 = h in absurd (omega arith)

pub signed_space : (z : ℤ) → FitsSigned w64 z → Without 32 (signed_decimal z)
signed_space z fits = signed_without 32 z no_space (λ e. absurd (omega arith)) fits

pub signed_line : (z : ℤ) → FitsSigned w64 z → NoNewline (signed_decimal z)
signed_line z fits = signed_without 10 z no_line (λ e. absurd (omega arith)) fits

-- The parts of an identity.
abbrev after_seconds : Signature → List ℕ
after_seconds who = signed_decimal who.time.offset ++ 32 ∷ (who.name ++ 9 ∷ who.email)

abbrev after_offset : Signature → List ℕ
after_offset who = who.name ++ 9 ∷ who.email

seconds_part : (who : Signature) (bytes front back : List ℕ) → IsIdentity who → Splits 32 bytes front back → bytes ≡ who_text who → (front ≡ signed_decimal who.time.seconds) × (back ≡ after_seconds who)
seconds_part who bytes front back fits s e = same_split 32 front (signed_decimal who.time.seconds) back (after_seconds who) s.first (signed_space who.time.seconds fits.seconds) (sym s.is ∙ e)

offset_part : (who : Signature) (bytes front back : List ℕ) → IsIdentity who → Splits 32 bytes front back → bytes ≡ after_seconds who → (front ≡ signed_decimal who.time.offset) × (back ≡ after_offset who)
offset_part who bytes front back fits s e = same_split 32 front (signed_decimal who.time.offset) back (after_offset who) s.first (signed_space who.time.offset (wide who.time.offset fits.offset)) (sym s.is ∙ e)

name_part : (who : Signature) (bytes front back : List ℕ) → IsIdentity who → Splits 9 bytes front back → bytes ≡ after_offset who → (front ≡ who.name) × (back ≡ who.email)
name_part who bytes front back fits s e = same_split 9 front who.name back who.email s.first fits.name (sym s.is ∙ e)

pub no_seconds : (bytes : List ℕ) → Without 32 bytes → IsNoWho [] bytes
no_seconds bytes none who fits e = has_byte 32 (signed_decimal who.time.seconds) (after_seconds who) (subst (Without 32) e none)

pub no_offset : (bytes seconds rest : List ℕ) → Splits 32 bytes seconds rest → Without 32 rest → IsNoWho [] bytes
no_offset bytes seconds rest s none who fits e = has_byte 32 (signed_decimal who.time.offset) (after_offset who) (subst (Without 32) (seconds_part who bytes seconds rest fits s e).1 none)

pub no_name : (bytes seconds rest offset more : List ℕ) → Splits 32 bytes seconds rest → Splits 32 rest offset more → Without 9 more → IsNoWho [] bytes
no_name bytes seconds rest offset more s t none who fits e =
    has_byte 9 who.name who.email (subst (Without 9) (offset_part who rest offset more fits t (seconds_part who bytes seconds rest fits s e).1).1 none)

pub no_email : (bytes seconds rest offset more name email : List ℕ) → Splits 32 bytes seconds rest → Splits 32 rest offset more → Splits 9 more name email → (Without 9 email → ⊥) → IsNoWho [] bytes
no_email bytes seconds rest offset more name email s t u none who fits e =
    none (subst (Without 9) (sym (name_part who more name email fits u (offset_part who rest offset more fits t (seconds_part who bytes seconds rest fits s e).1).1).1) fits.email)

pub bad_seconds : (bytes seconds rest : List ℕ) → Splits 32 bytes seconds rest → IsNoSigned w64 seconds → IsNoWho [] bytes
bad_seconds bytes seconds rest s none who fits e = none who.time.seconds fits.seconds (seconds_part who bytes seconds rest fits s e).0

pub bad_offset : (bytes seconds rest offset more : List ℕ) → Splits 32 bytes seconds rest → Splits 32 rest offset more → IsNoSigned w32 offset → IsNoWho [] bytes
bad_offset bytes seconds rest offset more s t none who fits e = none who.time.offset fits.offset (offset_part who rest offset more fits t (seconds_part who bytes seconds rest fits s e).1).0

pub is_who : (bytes seconds rest offset more name email : List ℕ) (time : Time) → NoNewline bytes → Splits 32 bytes seconds rest → Splits 32 rest offset more → Splits 9 more name email → Without 9 email
    → FitsSigned w64 time.seconds → FitsSigned w32 time.offset → seconds ≡ signed_decimal time.seconds → offset ≡ signed_decimal time.offset
    → IsIdentity (signature_of time name email) × (bytes ≡ who_text (signature_of time name email))
is_who bytes seconds rest offset more name email time line s t u tab fits fits' e f =
    let open_rest : NoNewline rest = (without_back 10 seconds (32 ∷ rest) (subst NoNewline s.is line)).1 in
    let open_more : NoNewline more = (without_back 10 offset (32 ∷ more) (subst NoNewline t.is open_rest)).1 in
    let parts : NoNewline (name ++ 9 ∷ email) = subst NoNewline u.is open_more in (
      record { seconds = fits; offset = fits'; name = u.first; name_line = without_front 10 name (9 ∷ email) parts; email = tab; email_line = (without_back 10 name (9 ∷ email) parts).1 },
      s.is ∙ ap (λ l. seconds ++ 32 ∷ l) (t.is ∙ ap (λ l. offset ++ 32 ∷ l) u.is ∙ ap (λ l. l ++ 32 ∷ (name ++ 9 ∷ email)) f) ∙ ap (λ l. l ++ 32 ∷ (signed_decimal time.offset ++ 32 ∷ (name ++ 9 ∷ email))) e,
    )

pub no_who : (word line rest : List ℕ) → line ≡ word ++ rest → IsNoWho [] rest → IsNoWho word line
no_who word line rest is none who fits e = none who fits (append_cancel_left word rest (who_text who) (sym is ∙ e))

pub who_line_open : (who : Signature) → IsIdentity who → NoNewline (who_text who)
who_line_open who fits =
    without_append 10 (signed_decimal who.time.seconds) (32 ∷ after_seconds who) (signed_line who.time.seconds fits.seconds) (
      (λ e. absurd (omega arith)),
      without_append 10 (signed_decimal who.time.offset) (32 ∷ after_offset who) (signed_line who.time.offset (wide who.time.offset fits.offset))
          ((λ e. absurd (omega arith)), without_append 10 who.name (9 ∷ who.email) fits.name_line ((λ e. absurd (omega arith)), fits.email_line)),
    )

-- Sizes.
pub large_size : (bytes : List ℕ) (n : ℕ) → bytes ≡ decimal n → n < 2 ^ 64 → (n ≤ block_limit → ⊥) → IsNoSize bytes
large_size bytes n e small large size le f =
    let same : n ≡ size = decimal_injective n size small (omega arith) (sym e ∙ f) in large (omega arith)

-- Literals have no newline.
abbrev pub is_open : List ℕ → Bool
is_open [] = true
is_open (x ∷ xs) = cond (nat_eq x 10) false (is_open xs)

pub opens : (xs : List ℕ) → is_open xs ≡ true → NoNewline xs
opens [] e = tt
opens (x ∷ xs) e = elim (eqb_tells x 10) [
  | inl p ↦ let h : cond (nat_eq x 10) false (is_open xs) ≡ false = ap (λ b. cond b false (is_open xs)) p.0 in let no : false ≡ true = sym h ∙ e in absurd (cc)
  | inr p ↦ (p.1, opens xs (sym (ap (λ b. cond b false (is_open xs)) p.0) ∙ e))
]

pub no_size : (bytes : List ℕ) → IsNoNumber bytes → IsNoSize bytes
no_size bytes none size le e = none size (omega arith) e
