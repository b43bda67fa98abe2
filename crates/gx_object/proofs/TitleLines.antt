-- How the lines of a title are joined.
use Rattle.std.proofs.Common.{◌≡◌, ◌≤◌, ◌<◌, ◌+◌, ◌∙◌, ℕ, suc, Bool, true, false, not, cond, Some, None, unwrap_or, List, [], ◌∷◌, ◌++◌, length, take, drop, map, ap, refl, arith}
use Rattle.std.specs.List.{slice_split, onto_first, position, position_or_len, join_with_byte}
use borrow.Author.Tests.{ltb-true}
use Rattle.std.proofs.Common.{nat_lt}
use Rattle.std.proofs.lemmas.Bool.Decides.{nat_tests}
use Rattle.std.proofs.lemmas.List.{length-map}
use Rattle.std.proofs.lemmas.List.Sums.{prefix_len-le-length}
use Rattle.std.proofs.lemmas.List.Splits.{slice_split_first, slice_split-cons_no, length-slice_split}
use Rattle.gx_object.specs.Message.{is_newline, trim_end, joined_lines}

-- a list of pieces that goes on after its first
join_more : (x : List ℕ) (xs : List (List ℕ)) → 0 < length xs → join_with_byte 32 (x ∷ xs) ≡ x ++ (32 ∷ join_with_byte 32 xs)
join_more x [] h = absurd (omega arith)
join_more x (y ∷ ys) h = refl

-- the lines of a text that has a newline
split_first : (text : List ℕ) → position_or_len is_newline text < length text → slice_split is_newline text ≡ take (position_or_len is_newline text) text ∷ slice_split is_newline (drop (position_or_len is_newline text + 1) text)
split_first text h = slice_split_first is_newline text 0 h

-- text with a newline is its first line, and what follows
pub joined_first : (text : List ℕ) → position_or_len is_newline text < length text → joined_lines text ≡ trim_end (take (position_or_len is_newline text) text) ++ (32 ∷ joined_lines (drop (position_or_len is_newline text + 1) text))
joined_first text h =
    let after = drop (position_or_len is_newline text + 1) text in
    let some_lines : 0 < length (map trim_end (slice_split is_newline after)) = rw (length-map (slice_split is_newline after) trim_end, length-slice_split is_newline after) (omega arith) in
    ap (λ (lines : List (List ℕ)). join_with_byte 32 (map trim_end lines)) (split_first text h) ∙ join_more _ _ some_lines

only_step : (b : ℕ) (rest : List ℕ) (t : Bool) → is_newline b ≡ t → suc (length rest) ≤ cond (not t) (1 + position_or_len is_newline rest) 0 → (length rest ≤ position_or_len is_newline rest → slice_split is_newline rest ≡ rest ∷ []) → slice_split is_newline (b ∷ rest) ≡ (b ∷ rest) ∷ []
only_step b rest true e h more = absurd (omega arith)
only_step b rest false e h more = slice_split-cons_no is_newline b rest e ∙ ap (onto_first b) (more (omega arith))

-- the only line of a text without a newline
split_only : (text : List ℕ) → length text ≤ position_or_len is_newline text → slice_split is_newline text ≡ text ∷ []
split_only [] h = refl
split_only (b ∷ rest) h = only_step b rest (is_newline b) refl h (split_only rest)

-- text without a newline is one line
pub joined_only : (text : List ℕ) → length text ≤ position_or_len is_newline text → joined_lines text ≡ trim_end text
joined_only text h = ap (λ (lines : List (List ℕ)). join_with_byte 32 (map trim_end lines)) (split_only text h)

-- where a test passes first
found : (p : ℕ → Bool) (xs : List ℕ) (at : ℕ) (t : Bool) → nat_lt (position_or_len p xs) (length xs) ≡ t → cond t (Some (position_or_len p xs)) None ≡ Some at → (position_or_len p xs ≡ at) × (at < length xs)
found p xs at true e some = let same : position_or_len p xs ≡ at = cc in (same, rw (← same) (ltb-true _ _ e))
found p xs at false e some = cc

pub position_found : (p : ℕ → Bool) (xs : List ℕ) (at : ℕ) → position p xs ≡ Some at → (position_or_len p xs ≡ at) × (at < length xs)
position_found p xs at some = found p xs at _ refl some

missed : (p : ℕ → Bool) (xs : List ℕ) (t : Bool) → nat_lt (position_or_len p xs) (length xs) ≡ t → cond t (Some (position_or_len p xs)) None ≡ None → length xs ≤ position_or_len p xs
missed p xs true e none = cc
missed p xs false e none = grind (arith, nat_tests)

pub position_missed : (p : ℕ → Bool) (xs : List ℕ) → position p xs ≡ None → length xs ≤ position_or_len p xs
position_missed p xs none = missed p xs _ refl none

-- the place, or the end
or_end : (p : ℕ → Bool) (xs : List ℕ) (t : Bool) → nat_lt (position_or_len p xs) (length xs) ≡ t → unwrap_or (cond t (Some (position_or_len p xs)) None) (length xs) ≡ position_or_len p xs
or_end p xs true e = refl
or_end p xs false e = let long : length xs ≤ position_or_len p xs = grind (arith, nat_tests) in omega (arith, prefix_len-le-length (λ x. not (p x)) xs)

pub position_or_end : (p : ℕ → Bool) (xs : List ℕ) → unwrap_or (position p xs) (length xs) ≡ position_or_len p xs
position_or_end p xs = or_end p xs _ refl

-- text in which a newline is found is its first line, and what follows
pub joined_found : (text : List ℕ) (at : ℕ) → position is_newline text ≡ Some at → joined_lines text ≡ trim_end (take at text) ++ (32 ∷ joined_lines (drop (at + 1) text))
joined_found text at some =
    let place = position_found is_newline text at some in
    let within : position_or_len is_newline text < length text = rw (place.0) (place.1) in
    rw place.0 at (joined_first text within)

pub joined_missed : (text : List ℕ) → position is_newline text ≡ None → joined_lines text ≡ trim_end text
joined_missed text none = joined_only text (position_missed is_newline text none)
