-- A text spells one moment at most.
use Rattle.std.proofs.Common.{◌≡◌, ◌∙◌, sym, ap, subst, ℕ, ℤ, pos, neg_ℤ, ◌+◌, ◌*◌, List, ◌∷◌, ◌++◌, arith, inl, inr}
use Rattle.std.specs.Str.Parse.{AllDigits, digits_value}
use Rattle.std.proofs.lemmas.Str.Parse.{digit_from_value}
use Rattle.gx_object.specs.declared.signature.Time.{Time}
use Rattle.gx_object.specs.TimeSpelling.{SpellsTwoDigits, SpellsPlain, SpellsNegated, SpellsSeconds, HasSign, SpellsOffset, SpellsTime}
use Rattle.gx_object.proofs.Dates.{offset_parts, seconds_lack, time_parts}

no_sign : (text : List ℕ) (y z : ℤ) → SpellsPlain text y → SpellsNegated text z → ⊥
no_sign text y z p q =
    let digits : AllDigits 10 (45 ∷ q.0) = subst (AllDigits 10) q.2 p.1.0.1 in
    let low = (digit_from_value 45 digits.0).0 in
    omega (arith, low)

seconds_once : (text : List ℕ) (y z : ℤ) → SpellsSeconds text y → SpellsSeconds text z → y ≡ z
seconds_once text y z (_, inl p) (_, inl q) = p.2 ∙ ap pos (sym p.1.1 ∙ q.1.1) ∙ sym q.2
seconds_once text y z (_, inl p) (_, inr q) = absurd (no_sign text y z p q)
seconds_once text y z (_, inr p) (_, inl q) = absurd (no_sign text z y q p)
seconds_once text y z (_, inr p) (_, inr q) =
    let whole : 45 ∷ p.0 ≡ 45 ∷ q.0 = sym p.2 ∙ q.2 in
    let same : p.0 ≡ q.0 = cc in
    p.4 ∙ ap (λ n. neg_ℤ (pos n)) (sym p.3.1 ∙ ap (digits_value 10) same ∙ q.3.1) ∙ sym q.4

two_once : (text other : List ℕ) (m n : ℕ) → text ≡ other → SpellsTwoDigits text m → SpellsTwoDigits other n → m ≡ n
two_once text other m n e p q = sym p.1.1 ∙ ap (digits_value 10) e ∙ q.1.1

signed_once : (sign other seconds others : ℕ) (y z : ℤ) → sign ≡ other → seconds ≡ others → HasSign sign seconds y → HasSign other others z → y ≡ z
signed_once sign other seconds others y z e f (inl p) (inl q) = p.1 ∙ ap pos f ∙ sym q.1
signed_once sign other seconds others y z e f (inl p) (inr q) = absurd (omega (arith, e, p.0, q.0))
signed_once sign other seconds others y z e f (inr p) (inl q) = absurd (omega (arith, e, p.0, q.0))
signed_once sign other seconds others y z e f (inr p) (inr q) = p.1 ∙ ap (λ n. neg_ℤ (pos n)) f ∙ sym q.1

offset_once : (text : List ℕ) (y z : ℤ) → SpellsOffset text y → SpellsOffset text z → y ≡ z
offset_once text y z p q =
    let parts = offset_parts text p.sign p.hours_text p.minutes_text z p.whole p.hours_spelled.0 q in
    let whole : p.sign ∷ p.hours_text ++ p.minutes_text ≡ q.sign ∷ q.hours_text ++ q.minutes_text = sym p.whole ∙ q.whole in
    let sign : p.sign ≡ q.sign = cc in
    let hours = two_once p.hours_text q.hours_text p.hours q.hours parts.0 p.hours_spelled q.hours_spelled in
    let minutes = two_once p.minutes_text q.minutes_text p.minutes q.minutes parts.1 p.minutes_spelled q.minutes_spelled in
    signed_once p.sign q.sign (3600 * p.hours + 60 * p.minutes) (3600 * q.hours + 60 * q.minutes) y z sign (omega (arith, hours, minutes)) p.signed q.signed

same_time : (s t o p : ℤ) → s ≡ t → o ≡ p → (let a : Time = record { seconds = s; offset = o } in a) ≡ record { seconds = t; offset = p }
same_time s t o p e f = cc

pub one_time : (text : List ℕ) (a b : Time) → SpellsTime text a → SpellsTime text b → a ≡ b
one_time text a b p q =
    let parts = time_parts text p.seconds_text p.offset_text p.whole (seconds_lack p.seconds_text a.seconds p.seconds) b q in
    same_time a.seconds b.seconds a.offset b.offset
    (seconds_once p.seconds_text a.seconds b.seconds p.seconds (subst (λ t. SpellsSeconds t b.seconds) (sym parts.0) q.seconds))
    (offset_once p.offset_text a.offset b.offset p.offset (subst (λ t. SpellsOffset t b.offset) (sym parts.1) q.offset))
