-- Days, times of the day, and the moments that they name.
use Rattle.std.specs.Prelude.{◌≡◌, ℕ, ℤ, pos, ◌+◌, ◌*◌, ◌<◌, ◌+ℤ◌, ◌-ℤ◌, ◌*ℤ◌, List}
use Rattle.jiff_core.specs.Calendar.{IsDate, days_from_civil}
use Rattle.gx_object.specs.declared.signature.Time.{Time}
use Rattle.gx_object.specs.TimeSpelling.{SpellsOffset}
use Rattle.gx_actor.specs.declared.date.civil.Civil.{Civil}

-- a clock shows this time: hours below 24, minutes and seconds below 60 (ours: Git takes the hour 24 and the second 60)
abbrev pub IsClock : Civil → Type 0
IsClock civil = (civil.hours < 24) × (civil.minutes < 60) × (civil.seconds < 60)

-- the calendar has this day, and a clock shows this time (ours)
abbrev pub Exists : Civil → Type 0
Exists civil = IsDate (pos civil.year) (pos civil.month) (pos civil.day) × IsClock civil

-- the seconds from midnight to the time that a clock shows (ours)
abbrev pub clock_seconds : Civil → ℕ
clock_seconds civil = 3600 * civil.hours + 60 * civil.minutes + civil.seconds

-- the seconds from the epoch to a day and time, on a clock that is ahead of UTC by the offset, which is in seconds
-- (git-commit(1), "Date Formats")
abbrev pub seconds_at : Civil → ℤ → ℤ
seconds_at civil offset =
    ((days_from_civil (pos civil.year) civil.month civil.day *ℤ pos 86400) +ℤ pos (clock_seconds civil)) -ℤ offset

-- the moment of a day and time with its written offset (git-commit(1), "Date Formats")
pub record IsTimeAt (civil : Civil) (written : List ℕ) (time : Time) : Type 0 where
  pub exists : Exists civil
  pub offset : SpellsOffset written time.offset
  pub seconds : time.seconds ≡ seconds_at civil time.offset
