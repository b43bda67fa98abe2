-- How the offset of a date is read. What it says is in `TimeSpelling` of gx_object.
use Rattle.std.specs.Prelude.{ℕ, ℤ, pos, neg_ℤ, ◌+◌, ◌*◌, ◌==◌, ◌&&◌, ◌||◌, Bool, List, codes, length, slice_index, if◌then◌else◌}
use Rattle.gx_actor.specs.Form.{begins_in_form, two_digits_at}

-- the text is a sign and four digits (ours)
abbrev pub is_offset : List ℕ → Bool
is_offset text =
    length text == 5 && begins_in_form (codes "?0000") text && (slice_index text 0 == 43 || slice_index text 0 == 45)

-- the seconds that they are (ours)
abbrev pub offset_of : List ℕ → ℤ
offset_of text =
    let seconds : ℕ = 3600 * two_digits_at text 1 + 60 * two_digits_at text 3 in
    if slice_index text 0 == 45 then neg_ℤ (pos seconds) else pos seconds
