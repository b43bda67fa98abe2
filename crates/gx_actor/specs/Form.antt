-- Texts compared with a form, letter by letter, and the numbers in them.
use Rattle.std.specs.Prelude.{ℕ, ◌+◌, ◌*◌, ◌-◌, ◌==◌, ◌&&◌, nat_le, Bool, true, List, length, slice_index, if◌then◌else◌}
use Rattle.std.specs.Char.{is_ascii_digit}
use Rattle.std.specs.List.{zip, list_all}

-- a `0` of the form matches any digit, a `?` any byte, and another letter itself (ours)
abbrev pub fits_letter : ℕ → ℕ → Bool
fits_letter letter byte = if letter == 48 then is_ascii_digit byte else (if letter == 63 then true else byte == letter)

-- the first bytes of the text match the form (ours)
abbrev pub begins_in_form : List ℕ → List ℕ → Bool
begins_in_form form text =
    nat_le (length form) (length text) && list_all (λ pair. fits_letter pair.0 pair.1) (zip form text)

-- the value of the digit at the place (ours)
abbrev pub digit_at : List ℕ → ℕ → ℕ
digit_at text place = slice_index text place - 48

-- the number that two digits from the place on make (ours)
abbrev pub two_digits_at : List ℕ → ℕ → ℕ
two_digits_at text place = 10 * digit_at text place + digit_at text (place + 1)

-- the number that four digits from the place on make, those of a year (ours)
abbrev pub year_at : List ℕ → ℕ → ℕ
year_at text place = 100 * two_digits_at text place + two_digits_at text (place + 2)
