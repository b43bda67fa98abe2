-- A text says one moment at most.
use Rattle.std.proofs.Common.{◌≡◌, ◌==◌, ◌<◌, ◌≤◌, ◌+◌, ◌∙◌, ℕ, ℤ, zero, suc, true, List, [], ◌∷◌, length, drop, codes, Some, IsTrue, nat_le, refl, sym, ap, subst, inl, inr, arith, get_or}
use Rattle.std.specs.List.{zip, list_all}
use Rattle.std.specs.Str.{bytes_eq}
use Rattle.std.proofs.lemmas.Bool.{and_parts, or_cases, eqb-true}
use Rattle.std.proofs.lemmas.Bool.Decides.{nat_tests}
use Rattle.std.proofs.lemmas.List.{get_or_append_left, get_or_at, length-append, length-drop}
use Rattle.std.proofs.lemmas.Map.Lookups.{exact_bytes}
use Rattle.std.proofs.lemmas.Map.Text.{is_eq-slice_cmp}
use Rattle.std.proofs.lemmas.Str.Parse.{digit_at as digit_within}
use Rattle.gx_object.specs.declared.signature.Time.{Time}
use Rattle.gx_object.specs.TimeSpelling.{SpellsSeconds, SpellsOffset, SpellsTime}
use Rattle.gx_actor.specs.declared.date.civil.Civil.{Civil}
use Rattle.gx_actor.specs.Civil.{IsTimeAt, seconds_at}
use Rattle.gx_actor.specs.Form.{begins_in_form, fits_letter, digit_at, two_digits_at}
use Rattle.gx_actor.specs.Date.SpellsDate.{Now, Raw, IsoDay, IsoTime, MailTime}
use Rattle.gx_actor.specs.Date.{SpellsDate, SpellsIsoDay, SpellsIsoTime, SpellsMailTime, SpellsTwoDigitDay, SpellsOneDigitDay, IsMailTime, iso_time, mail_civil}
use Rattle.gx_actor.proofs.OffsetLemmas.{offset_once}
use Rattle.gx_actor.proofs.SearchLemmas.{is_equal}

-- each letter of a text fits the one of its form
letter_at : (form text : List ℕ) (k : ℕ) → list_all (λ pair. fits_letter pair.0 pair.1) (zip form text) ≡ true → k < length form → k < length text → fits_letter (get_or form k 0) (get_or text k 0) ≡ true
letter_at [] text k all p q = absurd (omega arith)
letter_at (f ∷ fs) [] k all p q = absurd (omega arith)
letter_at (f ∷ fs) (t ∷ ts) zero all p q = (and_parts _ _ all).0
letter_at (f ∷ fs) (t ∷ ts) (suc k) all p q = letter_at fs ts k (and_parts _ _ all).1 (omega arith) (omega arith)

form_parts : (form text : List ℕ) → IsTrue (begins_in_form form text) → (nat_le (length form) (length text) ≡ true) × (list_all (λ pair. fits_letter pair.0 pair.1) (zip form text) ≡ true)
form_parts form text begins = and_parts (nat_le (length form) (length text)) (list_all (λ pair. fits_letter pair.0 pair.1) (zip form text)) begins

form_length : (form text : List ℕ) → IsTrue (begins_in_form form text) → length form ≤ length text
form_length form text begins =
    let long : nat_le (length form) (length text) ≡ true = (form_parts form text begins).0 in grind (arith, nat_tests)

form_letter : (form text : List ℕ) (k : ℕ) → IsTrue (begins_in_form form text) → k < length form → fits_letter (get_or form k 0) (get_or text k 0) ≡ true
form_letter form text k begins within =
    let long = form_length form text begins in letter_at form text k (form_parts form text begins).1 within (omega arith)

now_length : (text : List ℕ) → IsTrue (bytes_eq text (codes "now")) → length text ≡ 3
now_length text e = ap length (exact_bytes text (codes "now") (is_equal _ (is_eq-slice_cmp text (codes "now") ∙ e)))

-- seconds are at least one byte, and after the first they are digits
seconds_length : (text : List ℕ) (z : ℤ) → SpellsSeconds text z → 0 < length text
seconds_length text z (_, inl plain) = plain.1.0.0
seconds_length text z (_, inr negated) = let e = ap length negated.2 in omega arith

seconds_digit : (text : List ℕ) (z : ℤ) (k : ℕ) → SpellsSeconds text z → 0 < k → k < length text → 48 ≤ get_or text k 0
seconds_digit text z k (_, inl plain) above within = (digit_within text k plain.1.0.1 within).0
seconds_digit text z zero (_, inr negated) above within = absurd (omega arith)
seconds_digit text z (suc k) (_, inr negated) above within =
    let e = ap length negated.2 in
    let inside : k < length negated.0 = omega arith in
    subst (λ (t : List ℕ). 48 ≤ get_or t (suc k) 0) (sym negated.2) (digit_within negated.0 k negated.3.0.1 inside).0

offset_length : (text : List ℕ) (z : ℤ) → SpellsOffset text z → length text ≡ 5
offset_length text z spelled =
    let e = ap length spelled.whole in
    let h = spelled.hours_spelled.0 in
    let m = spelled.minutes_spelled.0 in
    omega (arith, length-append spelled.hours_text spelled.minutes_text)

-- the place of the space in a raw time
raw_length : (text : List ℕ) (t : Time) (spelled : SpellsTime text t) → length text ≡ length spelled.seconds_text + 6
raw_length text t spelled =
    let e = ap length spelled.whole in
    let o = offset_length spelled.offset_text t.offset spelled.offset in
    omega (arith, length-append spelled.seconds_text (32 ∷ spelled.offset_text))

raw_long : (text : List ℕ) (t : Time) → SpellsTime text t → 6 < length text
raw_long text t spelled = let s = seconds_length spelled.seconds_text t.seconds spelled.seconds in omega (arith, raw_length text t spelled)

raw_space : (text : List ℕ) (t : Time) (spelled : SpellsTime text t) → get_or text (length spelled.seconds_text) 0 ≡ 32
raw_space text t spelled = ap (λ (x : List ℕ). get_or x (length spelled.seconds_text) 0) spelled.whole ∙ get_or_at spelled.seconds_text 32 spelled.offset_text 0 (length spelled.seconds_text) refl

raw_digit : (text : List ℕ) (t : Time) (spelled : SpellsTime text t) (k : ℕ) → 0 < k → k < length spelled.seconds_text → 48 ≤ get_or text k 0
raw_digit text t spelled k above within =
    subst (λ (x : List ℕ). 48 ≤ get_or x k 0) (sym spelled.whole)
    (subst (λ n. 48 ≤ n) (sym (get_or_append_left spelled.seconds_text (32 ∷ spelled.offset_text) 0 k within)) (seconds_digit spelled.seconds_text t.seconds k spelled.seconds above within))

at_length : (civil : Civil) (text : List ℕ) (n : ℕ) (t : Time) → IsTimeAt civil (drop n text) t → n ≤ length text → length text ≡ n + 5
at_length civil text n t moment long =
    let five : length (drop n text) ≡ 5 = offset_length (drop n text) t.offset moment.offset in
    omega (arith, length-drop n text)

same_time : (s t o p : ℤ) → s ≡ t → o ≡ p → (let a : Time = record { seconds = s; offset = o } in a) ≡ record { seconds = t; offset = p }
same_time s t o p e f = cc

same_at : (civil : Civil) (written : List ℕ) (a b : Time) → IsTimeAt civil written a → IsTimeAt civil written b → a ≡ b
same_at civil written a b p q =
    let offset = offset_once written a.offset b.offset p.offset q.offset in
    same_time a.seconds b.seconds a.offset b.offset (p.seconds ∙ ap (seconds_at civil) offset ∙ sym q.seconds) offset

day_length : (text : List ℕ) (t : Time) → SpellsIsoDay text t → length text ≡ 10
day_length text t spelled = eqb-true _ _ (and_parts _ _ spelled.form).0

-- the fifth letter of a day is a dash
day_dash : (text : List ℕ) (t : Time) → SpellsIsoDay text t → get_or text 4 0 ≡ 45
day_dash text t spelled = eqb-true _ _ (form_letter (codes "0000-00-00") text 4 (and_parts (length text == 10) (begins_in_form (codes "0000-00-00") text) spelled.form).1 (omega arith))

record IsoShape (text : List ℕ) : Type 0 where
  long : 20 ≤ length text
  dash : get_or text 4 0 ≡ 45

iso_shape : (text : List ℕ) (t : Time) → SpellsIsoTime text t → IsoShape text
iso_shape text t spelled =
    elim (or_cases (begins_in_form (codes "0000-00-00 00:00:00 ") text) (begins_in_form (codes "0000-00-00T00:00:00 ") text) spelled.form) [
      | inl space ↦ record { long = form_length (codes "0000-00-00 00:00:00 ") text space; dash = eqb-true _ _ (form_letter (codes "0000-00-00 00:00:00 ") text 4 space (omega arith)) }
      | inr letter ↦ record { long = form_length (codes "0000-00-00T00:00:00 ") text letter; dash = eqb-true _ _ (form_letter (codes "0000-00-00T00:00:00 ") text 4 letter (omega arith)) }
    ]

iso_length : (text : List ℕ) (t : Time) → SpellsIsoTime text t → length text ≡ 25
iso_length text t spelled = at_length (iso_time text) text 20 t spelled.moment (iso_shape text t spelled).long

two_length : (text : List ℕ) (t : Time) → SpellsTwoDigitDay text t → length text ≡ 31
two_length text t spelled = at_length _ text 26 t spelled.1.moment (form_length (codes "???, 00 ??? 0000 00:00:00 ") text spelled.0)

one_length : (text : List ℕ) (t : Time) → SpellsOneDigitDay text t → length text ≡ 30
one_length text t spelled = at_length _ text 25 t spelled.1.moment (form_length (codes "???, 0 ??? 0000 00:00:00 ") text spelled.0)

mail_length : (text : List ℕ) (t : Time) → SpellsMailTime text t → 30 ≤ length text
mail_length text t (inl two) = let n = two_length text t two in omega arith
mail_length text t (inr one) = let n = one_length text t one in omega arith

-- the fourth letter of a mail date is a comma
mail_comma : (text : List ℕ) (t : Time) → SpellsMailTime text t → get_or text 3 0 ≡ 44
mail_comma text t (inl two) = eqb-true _ _ (form_letter (codes "???, 00 ??? 0000 00:00:00 ") text 3 two.0 (omega arith))
mail_comma text t (inr one) = eqb-true _ _ (form_letter (codes "???, 0 ??? 0000 00:00:00 ") text 3 one.0 (omega arith))

raw_day : (text : List ℕ) (a b : Time) → SpellsTime text a → SpellsIsoDay text b → ⊥
raw_day text a b raw day =
    let four : length raw.seconds_text ≡ 4 = omega (arith, raw_length text a raw, day_length text b day) in
    let space : get_or text 4 0 ≡ 32 = subst (λ k. get_or text k 0 ≡ 32) four (raw_space text a raw) in
    omega (arith, space, day_dash text b day)

raw_iso : (text : List ℕ) (a b : Time) → SpellsTime text a → SpellsIsoTime text b → ⊥
raw_iso text a b raw iso =
    let inside : 4 < length raw.seconds_text = omega (arith, raw_length text a raw, iso_length text b iso) in
    let dash = (iso_shape text b iso).dash in
    omega (arith, raw_digit text a raw 4 (omega arith) inside, dash)

raw_mail : (text : List ℕ) (a b : Time) → SpellsTime text a → SpellsMailTime text b → ⊥
raw_mail text a b raw mail =
    let inside : 3 < length raw.seconds_text = omega (arith, raw_length text a raw, mail_length text b mail) in
    omega (arith, raw_digit text a raw 3 (omega arith) inside, mail_comma text b mail)

one_mail : (text : List ℕ) (day place : ℕ) (a b : Time) → IsMailTime text day place a → IsMailTime text day place b → a ≡ b
one_mail text day place a b p q =
    let both : Some p.month ≡ Some q.month = sym p.named ∙ q.named in
    let same : p.month ≡ q.month = cc in
    same_at (mail_civil text q.month day place) (drop (place + 19) text) a b (subst (λ n. IsTimeAt (mail_civil text n day place) (drop (place + 19) text) a) same p.moment) q.moment

mail_once : (text : List ℕ) (a b : Time) → SpellsMailTime text a → SpellsMailTime text b → a ≡ b
mail_once text a b (inl p) (inl q) = one_mail text (two_digits_at text 5) 7 a b p.1 q.1
mail_once text a b (inl p) (inr q) = absurd (omega (arith, two_length text a p, one_length text b q))
mail_once text a b (inr p) (inl q) = absurd (omega (arith, one_length text a p, two_length text b q))
mail_once text a b (inr p) (inr q) = one_mail text (digit_at text 5) 6 a b p.1 q.1

pub once : ((text : List ℕ) (a b : Time) → SpellsTime text a → SpellsTime text b → a ≡ b) → (now : Time) (text : List ℕ) (a b : Time) → SpellsDate now text a → SpellsDate now text b → a ≡ b
once raw now text a b (Now p s) (Now q t) = s ∙ sym t
once raw now text a b (Now p s) (Raw q) = absurd (omega (arith, now_length text p, raw_long text b q))
once raw now text a b (Now p s) (IsoDay q) = absurd (omega (arith, now_length text p, day_length text b q))
once raw now text a b (Now p s) (IsoTime q) = absurd (omega (arith, now_length text p, iso_length text b q))
once raw now text a b (Now p s) (MailTime q) = absurd (omega (arith, now_length text p, mail_length text b q))
once raw now text a b (Raw p) (Now q t) = absurd (omega (arith, raw_long text a p, now_length text q))
once raw now text a b (Raw p) (Raw q) = raw text a b p q
once raw now text a b (Raw p) (IsoDay q) = absurd (raw_day text a b p q)
once raw now text a b (Raw p) (IsoTime q) = absurd (raw_iso text a b p q)
once raw now text a b (Raw p) (MailTime q) = absurd (raw_mail text a b p q)
once raw now text a b (IsoDay p) (Now q t) = absurd (omega (arith, day_length text a p, now_length text q))
once raw now text a b (IsoDay p) (Raw q) = absurd (raw_day text b a q p)
once raw now text a b (IsoDay p) (IsoDay q) = same_time a.seconds b.seconds a.offset b.offset (p.seconds ∙ sym q.seconds) (p.offset ∙ sym q.offset)
once raw now text a b (IsoDay p) (IsoTime q) = absurd (omega (arith, day_length text a p, iso_length text b q))
once raw now text a b (IsoDay p) (MailTime q) = absurd (omega (arith, day_length text a p, mail_length text b q))
once raw now text a b (IsoTime p) (Now q t) = absurd (omega (arith, iso_length text a p, now_length text q))
once raw now text a b (IsoTime p) (Raw q) = absurd (raw_iso text b a q p)
once raw now text a b (IsoTime p) (IsoDay q) = absurd (omega (arith, iso_length text a p, day_length text b q))
once raw now text a b (IsoTime p) (IsoTime q) = same_at (iso_time text) (drop 20 text) a b p.moment q.moment
once raw now text a b (IsoTime p) (MailTime q) = absurd (omega (arith, iso_length text a p, mail_length text b q))
once raw now text a b (MailTime p) (Now q t) = absurd (omega (arith, mail_length text a p, now_length text q))
once raw now text a b (MailTime p) (Raw q) = absurd (raw_mail text b a q p)
once raw now text a b (MailTime p) (IsoDay q) = absurd (omega (arith, mail_length text a p, day_length text b q))
once raw now text a b (MailTime p) (IsoTime q) = absurd (omega (arith, mail_length text a p, iso_length text b q))
once raw now text a b (MailTime p) (MailTime q) = mail_once text a b p q
