-- How times are read.
use Rattle.std.proofs.Common.{◌≡◌, MatchOption, ◌<◌, ◌+◌, ◌*◌, ◌∙◌, ◌==◌, Option, None, Result, Ok, Err, ℕ, ℤ, pos, neg_ℤ, zero, suc, false, List, [], ◌∷◌, ◌++◌, length, take, drop, sym, ap, refl, inl, inr, subst, ◌-ℤ◌, to_z, of_z, w32, arith}
use Rattle.std.proofs.lemmas.Int.{ints}
use Rattle.std.specs.List.{IsSplitAt, position_or_len}
use Rattle.std.specs.Str.{IsAscii, IsUtf8}
use Rattle.std.specs.Result.{MatchResult, result_ok}
use Rattle.std.proofs.lemmas.Fmt.{IsAscii-from_digits}
use Rattle.std.proofs.lemmas.Str.{IsUtf8-from_ascii}
use Rattle.std.proofs.lemmas.Bool.{and_parts, not-true}
use Rattle.std.proofs.lemmas.List.{take_at, drop_at, take-append-drop}
use Rattle.gx_object.specs.TimeSpelling.{SpellsTwoDigits, SpellsSeconds, HasSign, SpellsOffset, SpellsTime, seconds_text}
use Rattle.gx_object.specs.declared.signature.Time.{Time}
use Rattle.gx_object.specs.Split.{Lacks}
use Rattle.gx_object.specs.Laws.Splits.{cut_once, digits_lack, lacks_more}

-- the sign, the hours and the minutes of an offset's text
pub offset_text : (text : List ℕ) (sign : ℕ) (digits hours minutes : List ℕ) → text ≡ sign ∷ digits → IsSplitAt digits 2 hours minutes → text ≡ sign ∷ hours ++ minutes
offset_text text sign digits hours minutes whole split =
    let e : hours ++ minutes ≡ digits = rw (split.1, split.2) (take-append-drop 2 digits) in
    whole ∙ ap (λ x. sign ∷ x) (sym e)

same_halves : (a b x y : List ℕ) → length a ≡ 2 → length x ≡ 2 → a ++ b ≡ x ++ y → (a ≡ x) × (b ≡ y)
same_halves a b x y p q same =
    (sym (take_at a b 2 p) ∙ ap (take 2) same ∙ take_at x y 2 q, sym (drop_at a b 2 p) ∙ ap (drop 2) same ∙ drop_at x y 2 q)

same_tail : (a b : ℕ) (xs ys : List ℕ) → a ∷ xs ≡ b ∷ ys → xs ≡ ys
same_tail a b xs ys same = cc

-- an offset's text is cut in one way
pub offset_parts : (text : List ℕ) (sign : ℕ) (hours minutes : List ℕ) (offset : ℤ) → text ≡ sign ∷ hours ++ minutes → length hours ≡ 2 → (spelled : SpellsOffset text offset) → (hours ≡ spelled.hours_text) × (minutes ≡ spelled.minutes_text)
offset_parts text sign hours minutes offset whole two spelled = same_halves hours minutes _ _ two spelled.hours_spelled.0 (same_tail sign spelled.sign _ _ (sym whole ∙ spelled.whole))

pub no_hours : (text : List ℕ) (sign : ℕ) (hours minutes : List ℕ) → text ≡ sign ∷ hours ++ minutes → length hours ≡ 2 → ((number : ℕ) → ¬ SpellsTwoDigits hours number) → (offset : ℤ) → ¬ SpellsOffset text offset
no_hours text sign hours minutes whole two none offset spelled =
    let same = (offset_parts text sign hours minutes offset whole two spelled).0 in none spelled.hours (rw same spelled.hours_spelled)

pub no_minutes : (text : List ℕ) (sign : ℕ) (hours minutes : List ℕ) → text ≡ sign ∷ hours ++ minutes → length hours ≡ 2 → ((number : ℕ) → ¬ SpellsTwoDigits minutes number) → (offset : ℤ) → ¬ SpellsOffset text offset
no_minutes text sign hours minutes whole two none offset spelled =
    let same = (offset_parts text sign hours minutes offset whole two spelled).1 in none spelled.minutes (rw same spelled.minutes_spelled)

-- the offset that a sign, hours and minutes make
pub offset_by : (text : List ℕ) (sign : ℕ) (hours_text minutes_text : List ℕ) (hours minutes : ℕ) (offset : ℤ) → text ≡ sign ∷ hours_text ++ minutes_text → SpellsTwoDigits hours_text hours → SpellsTwoDigits minutes_text minutes → HasSign sign (3600 * hours + 60 * minutes) offset → SpellsOffset text offset
offset_by text sign hours_text minutes_text hours minutes offset whole h m signed = record {
  sign = sign;
  hours_text = hours_text;
  minutes_text = minutes_text;
  hours = hours;
  minutes = minutes;
  whole = whole;
  hours_spelled = h;
  minutes_spelled = m;
  signed = signed;
}

-- the seconds ahead of UTC and behind it, as they are computed
pub ahead_value : (h m : ℕ) → h < 100 → m < 100 → to_z w32 (h * 3600 + m * 60) ≡ pos (3600 * h + 60 * m)
ahead_value h m small short = omega (arith, ints)

pub behind_value : (h m : ℕ) → h < 100 → m < 100 → to_z w32 (of_z w32 (pos 0 -ℤ to_z w32 (h * 3600 + m * 60))) ≡ neg_ℤ (pos (3600 * h + 60 * m))
behind_value h m small short = omega (arith, ints)

ascii_more : (b : ℕ) (bs : List ℕ) → b < 128 → IsAscii bs → IsAscii (b ∷ bs)
ascii_more b bs low rest zero = low
ascii_more b bs low rest (suc i) = rest i

-- seconds are text
pub seconds_utf8 : (text : List ℕ) (seconds : ℤ) → SpellsSeconds text seconds → IsUtf8 text
seconds_utf8 text seconds spelled =
    elim spelled.1 [
      | inl ahead ↦ IsUtf8-from_ascii text (IsAscii-from_digits text ahead.1.0.1)
      | inr behind ↦ rw behind.2 (IsUtf8-from_ascii (45 ∷ behind.0) (ascii_more 45 behind.0 (omega arith) (IsAscii-from_digits behind.0 behind.3.0.1)))
    ]

pub not_utf8 : {X E : Type 0} (P : X → Type 0) (Q : E → Type 0) (text : List ℕ) (r : Result X E) → None ≡ result_ok r → MatchResult r (λ x. P x × IsUtf8 text) (λ e. ¬ (IsUtf8 text) × Q e) → ¬ IsUtf8 text
not_utf8 P Q text (Ok x) none cases = cc
not_utf8 P Q text (Err e) none cases = cases.0

-- and without a space
pub seconds_lack : (text : List ℕ) (seconds : ℤ) → SpellsSeconds text seconds → Lacks 32 text
seconds_lack text seconds spelled =
    elim spelled.1 [
      | inl ahead ↦ digits_lack 10 32 (omega arith) (omega arith) text ahead.1.0.1
      | inr behind ↦ rw behind.2 (lacks_more 32 45 behind.0 (λ same. omega arith) (digits_lack 10 32 (omega arith) (omega arith) behind.0 behind.3.0.1))
    ]

-- a time is cut at its first space
pub time_parts : (text seconds offset : List ℕ) → text ≡ seconds ++ 32 ∷ offset → Lacks 32 seconds → (time : Time) (spelled : SpellsTime text time) → (seconds ≡ spelled.seconds_text) × (offset ≡ spelled.offset_text)
time_parts text seconds offset whole lacks time spelled = cut_once 32 seconds spelled.seconds_text offset spelled.offset_text lacks (seconds_lack _ _ spelled.seconds) (sym whole ∙ spelled.whole)

pub no_seconds : (text seconds offset : List ℕ) → text ≡ seconds ++ 32 ∷ offset → Lacks 32 seconds → ((z : ℤ) → ¬ SpellsSeconds seconds z) → (time : Time) → ¬ SpellsTime text time
no_seconds text seconds offset whole lacks none time spelled =
    let same = (time_parts text seconds offset whole lacks time spelled).0 in none time.seconds (rw same spelled.seconds)

pub no_offset : (text seconds offset : List ℕ) → text ≡ seconds ++ 32 ∷ offset → Lacks 32 seconds → ((z : ℤ) → ¬ SpellsOffset offset z) → (time : Time) → ¬ SpellsTime text time
no_offset text seconds offset whole lacks none time spelled =
    let same = (time_parts text seconds offset whole lacks time spelled).1 in none time.offset (rw same spelled.offset)

step_front : (c : ℕ) (text front : List ℕ) → (c == 32) ≡ false → seconds_text text ≡ front → seconds_text (c ∷ text) ≡ c ∷ front
step_front c text front other same =
    let k : ℕ = position_or_len (λ b. b == 32) text in
    let one : 1 + k ≡ suc k = omega arith in rw other (rw one (ap (λ x. c ∷ x) same))

-- the seconds of a time stand in front of its first space
pub seconds_front : (front rest : List ℕ) → Lacks 32 front → seconds_text (front ++ 32 ∷ rest) ≡ front
seconds_front [] rest lacks = refl
seconds_front (c ∷ cs) rest lacks =
    let parts = and_parts _ _ lacks in step_front c (cs ++ 32 ∷ rest) cs (not-true _ parts.0) (seconds_front cs rest parts.1)

pub seconds_whole : (text : List ℕ) → Lacks 32 text → seconds_text text ≡ text
seconds_whole [] lacks = refl
seconds_whole (c ∷ cs) lacks =
    let parts = and_parts _ _ lacks in step_front c cs cs (not-true _ parts.0) (seconds_whole cs parts.1)

pub seconds_cut : (text front rest : List ℕ) → text ≡ front ++ 32 ∷ rest → Lacks 32 front → seconds_text text ≡ front
seconds_cut text front rest whole lacks = ap seconds_text whole ∙ seconds_front front rest lacks

-- what is read of the front is what the time begins with
pub front_seconds : (text front : List ℕ) (r : Option ℤ) → seconds_text text ≡ front → MatchOption r ((seconds : ℤ) → ¬ SpellsSeconds front seconds) (SpellsSeconds front) → MatchOption r ((seconds : ℤ) → ¬ SpellsSeconds (seconds_text text) seconds) (SpellsSeconds (seconds_text text))
front_seconds text front r same = subst (λ (x : List ℕ). MatchOption r ((seconds : ℤ) → ¬ SpellsSeconds x seconds) (SpellsSeconds x)) (sym same)
