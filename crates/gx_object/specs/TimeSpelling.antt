-- How a moment is read.
use Rattle.std.specs.Prelude.{◌≡◌, ◌⊎◌, ℕ, ℤ, pos, neg_ℤ, ◌+◌, ◌*◌, ◌==◌, List, ◌∷◌, ◌++◌, length, FitsSigned}
use Rattle.std.specs.Int.{w64}
use Rattle.std.specs.List.{before_first}
use Rattle.std.specs.Str.Parse.{IsNumeral, digits_value}
use Rattle.gx_object.specs.declared.signature.Time.{Time}

-- one digit of the base or more, leading zeros too, and the number that they spell
abbrev pub SpellsNumber : ℕ → List ℕ → ℕ → Type 0
SpellsNumber base digits number = IsNumeral base digits × (digits_value base digits ≡ number)

-- decimal digits for a number that is not below 0
abbrev pub SpellsPlain : List ℕ → ℤ → Type 0
SpellsPlain text value = (number : ℕ) × SpellsNumber 10 text number × (value ≡ pos number)

-- and for one after a `-`
abbrev pub SpellsNegated : List ℕ → ℤ → Type 0
SpellsNegated text value =
    (digits : List ℕ) × (number : ℕ) × (text ≡ 45 ∷ digits) × SpellsNumber 10 digits number
    × (value ≡ neg_ℤ (pos number))

-- Seconds are decimal digits, after a `-` where they are before the epoch, that make an i64. (Git, date-formats, "Git
-- internal format"; that leading zeros and `-0` are read is ours)
abbrev pub SpellsSeconds : List ℕ → ℤ → Type 0
SpellsSeconds text seconds = FitsSigned w64 seconds × (SpellsPlain text seconds ⊎ SpellsNegated text seconds)

-- two decimal digits of the number
abbrev pub SpellsTwoDigits : List ℕ → ℕ → Type 0
SpellsTwoDigits text number = (length text ≡ 2) × SpellsNumber 10 text number

-- seconds ahead of UTC after a `+`, and behind UTC after a `-`
abbrev pub HasSign : ℕ → ℕ → ℤ → Type 0
HasSign sign seconds offset = ((sign ≡ 43) × (offset ≡ pos seconds)) ⊎ ((sign ≡ 45) × (offset ≡ neg_ℤ (pos seconds)))

-- An offset is a sign, two digits of hours and two of minutes. (Git, date-formats, "Git internal format"; that
-- neither is bounded, so that `+9999` is 99 hours and 99 minutes, is ours)
pub record SpellsOffset (text : List ℕ) (offset : ℤ) : Type 0 where
  pub sign : ℕ
  pub hours_text : List ℕ
  pub minutes_text : List ℕ
  pub hours : ℕ
  pub minutes : ℕ
  pub whole : text ≡ sign ∷ hours_text ++ minutes_text
  pub hours_spelled : SpellsTwoDigits hours_text hours
  pub minutes_spelled : SpellsTwoDigits minutes_text minutes
  pub signed : HasSign sign (3600 * hours + 60 * minutes) offset

-- A moment is its seconds since the epoch, a space and its offset. (Git, date-formats, "Git internal format")
pub record SpellsTime (text : List ℕ) (time : Time) : Type 0 where
  pub seconds_text : List ℕ
  pub offset_text : List ℕ
  pub whole : text ≡ seconds_text ++ 32 ∷ offset_text
  pub seconds : SpellsSeconds seconds_text time.seconds
  pub offset : SpellsOffset offset_text time.offset

-- what is before the first space, or the whole text where it has none
abbrev pub seconds_text : List ℕ → List ℕ
seconds_text text = before_first (λ b. b == 32) text

-- the seconds that a time begins with, whatever follows their space, or 0 where it begins with none
abbrev pub BeginsWithSeconds : List ℕ → ℤ → Type 0
BeginsWithSeconds text seconds =
    SpellsSeconds (seconds_text text) seconds
    ⊎ ((seconds ≡ pos 0) × ((other : ℤ) → ¬ SpellsSeconds (seconds_text text) other))
