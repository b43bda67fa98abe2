-- How dates are written.
use Rattle.std.specs.Prelude.{◌≡◌, ◌⊎◌, ℕ, pos, ◌+◌, ◌==◌, ◌&&◌, ◌||◌, Bool, List, length, take, drop, codes, Some, IsTrue}
use Rattle.std.specs.Str.{bytes_eq}
use Rattle.gx_object.specs.declared.signature.Time.{Time}
use Rattle.gx_object.specs.TimeSpelling.{SpellsTime}
use Rattle.gx_actor.specs.declared.date.civil.Civil.{Civil}
use Rattle.gx_actor.specs.Civil.{Exists, seconds_at, IsTimeAt}
use Rattle.gx_actor.specs.Form.{begins_in_form, digit_at, two_digits_at, year_at}
use Rattle.gx_actor.specs.Names.{is_weekday, month_named}

-- the text is `YYYY-MM-DD` (ours)
abbrev pub is_iso_day : List ℕ → Bool
is_iso_day text = length text == 10 && begins_in_form (codes "0000-00-00") text

-- the day that `YYYY-MM-DD` names, at midnight (ours)
abbrev pub iso_day : List ℕ → Civil
iso_day text = record {
  year = year_at text 0;
  month = two_digits_at text 5;
  day = two_digits_at text 8;
  hours = 0;
  minutes = 0;
  seconds = 0;
}

-- the text begins with `YYYY-MM-DD HH:MM:SS ` or `YYYY-MM-DDTHH:MM:SS ` (git-commit(1), "Date Formats", "ISO 8601")
abbrev pub is_iso_time : List ℕ → Bool
is_iso_time text =
    begins_in_form (codes "0000-00-00 00:00:00 ") text || begins_in_form (codes "0000-00-00T00:00:00 ") text

-- the day and time that `YYYY-MM-DD HH:MM:SS ` names, with a space or a `T` in the middle (git-commit(1),
-- "Date Formats", "ISO 8601")
abbrev pub iso_time : List ℕ → Civil
iso_time text = record (iso_day text) {
  hours = two_digits_at text 11;
  minutes = two_digits_at text 14;
  seconds = two_digits_at text 17;
}

-- the day and time that a day and a month name with ` Mon YYYY HH:MM:SS `, which begins at the place (git-commit(1),
-- "Date Formats", "RFC 2822")
abbrev pub mail_civil : List ℕ → ℕ → ℕ → ℕ → Civil
mail_civil text month day place = record {
  year = year_at text (place + 5);
  month = month;
  day = day;
  hours = two_digits_at text (place + 10);
  minutes = two_digits_at text (place + 13);
  seconds = two_digits_at text (place + 16);
}

-- A day alone is its midnight in UTC. (ours: Git gives it the present time of the day)
pub record SpellsIsoDay (text : List ℕ) (time : Time) : Type 0 where
  pub form : IsTrue (is_iso_day text)
  pub exists : Exists (iso_day text)
  pub seconds : time.seconds ≡ seconds_at (iso_day text) (pos 0)
  pub offset : time.offset ≡ pos 0

-- a day, a time and an offset, as ISO 8601 writes them (git-commit(1), "Date Formats", "ISO 8601")
pub record SpellsIsoTime (text : List ℕ) (time : Time) : Type 0 where
  pub form : IsTrue (is_iso_time text)
  pub moment : IsTimeAt (iso_time text) (drop 20 text) time

-- A date as RFC 2822 writes it begins with a weekday. Its day ends at the place, and after that come a month, a year, a
-- time and an offset. (git-commit(1), "Date Formats", "RFC 2822"; that the weekday need not be that of the day is ours)
pub record IsMailTime (text : List ℕ) (day place : ℕ) (time : Time) : Type 0 where
  pub weekday : IsTrue (is_weekday (take 3 text))
  pub month : ℕ
  pub named : month_named (take 3 (drop (place + 1) text)) ≡ Some month
  pub moment : IsTimeAt (mail_civil text month day place) (drop (place + 19) text) time

-- `Www, DD Mon YYYY HH:MM:SS +hhmm` (git-commit(1), "Date Formats", "RFC 2822")
abbrev pub SpellsTwoDigitDay : List ℕ → Time → Type 0
SpellsTwoDigitDay text time =
    IsTrue (begins_in_form (codes "???, 00 ??? 0000 00:00:00 ") text)
    × IsMailTime text (two_digits_at text 5) 7 time

-- `Www, D Mon YYYY HH:MM:SS +hhmm` (git-commit(1), "Date Formats", "RFC 2822")
abbrev pub SpellsOneDigitDay : List ℕ → Time → Type 0
SpellsOneDigitDay text time =
    IsTrue (begins_in_form (codes "???, 0 ??? 0000 00:00:00 ") text)
    × IsMailTime text (digit_at text 5) 6 time

-- a date as RFC 2822 writes it, whose day has two digits or one (git-commit(1), "Date Formats", "RFC 2822")
abbrev pub SpellsMailTime : List ℕ → Time → Type 0
SpellsMailTime text time = SpellsTwoDigitDay text time ⊎ SpellsOneDigitDay text time

-- A date is written in one of these forms: `now`, Git's internal format, a day, ISO 8601, or RFC 2822. (git-commit(1),
-- "Date Formats"; `now` is of gix-date; a day alone, and which digits and letters each form must have, are ours)
pub data SpellsDate (now : Time) (text : List ℕ) (time : Time) : Type 0 where
  Now : IsTrue (bytes_eq text (codes "now")) → time ≡ now → SpellsDate now text time
  Raw : SpellsTime text time → SpellsDate now text time
  IsoDay : SpellsIsoDay text time → SpellsDate now text time
  IsoTime : SpellsIsoTime text time → SpellsDate now text time
  MailTime : SpellsMailTime text time → SpellsDate now text time
