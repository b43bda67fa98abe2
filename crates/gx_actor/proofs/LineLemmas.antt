-- How a mailmap is parted into lines.
use Rattle.std.proofs.Common.{◌≡◌, ◌≤◌, ◌<◌, ◌+◌, ◌∙◌, ℕ, suc, Bool, true, false, not, cond, Option, Some, None, List, [], ◌∷◌, ◌++◌, length, take, drop, ap, refl, arith, nat_lt}
use Rattle.std.specs.List.{slice_split, onto_first, position, position_or_len, filter_map}
use Rattle.std.specs.Option.{option_to_list}
use borrow.Author.Tests.{ltb-true}
use Rattle.std.proofs.lemmas.Bool.Decides.{nat_tests}
use Rattle.std.proofs.lemmas.List.Splits.{slice_split_first, slice_split-cons_no}
use Rattle.gx_object.specs.Message.{is_newline}
use Rattle.gx_actor.specs.declared.mailmap.entry.Entry.{Entry}
use Rattle.gx_actor.specs.LineReading.{entry_of, mailmap_entries}

-- where a test passes first, it passes within the list, and where none passes the place is past it
found : (p : ℕ → Bool) (xs : List ℕ) (at : ℕ) (t : Bool) → nat_lt (position_or_len p xs) (length xs) ≡ t → cond t (Some (position_or_len p xs)) None ≡ Some at → (position_or_len p xs ≡ at) × (position_or_len p xs < length xs)
found p xs at true e some = let same : position_or_len p xs ≡ at = cc in (same, ltb-true _ _ e)
found p xs at false e some = cc

missed : (p : ℕ → Bool) (xs : List ℕ) (t : Bool) → nat_lt (position_or_len p xs) (length xs) ≡ t → cond t (Some (position_or_len p xs)) None ≡ None → length xs ≤ position_or_len p xs
missed p xs true e none = cc
missed p xs false e none = grind (arith, nat_tests)

only_step : (b : ℕ) (rest : List ℕ) (t : Bool) → is_newline b ≡ t → suc (length rest) ≤ cond (not t) (1 + position_or_len is_newline rest) 0 → (length rest ≤ position_or_len is_newline rest → slice_split is_newline rest ≡ rest ∷ []) → slice_split is_newline (b ∷ rest) ≡ (b ∷ rest) ∷ []
only_step b rest true e long more = absurd (omega arith)
only_step b rest false e long more = slice_split-cons_no is_newline b rest e ∙ ap (onto_first b) (more (omega arith))

-- a text without a newline is one line
split_only : (text : List ℕ) → length text ≤ position_or_len is_newline text → slice_split is_newline text ≡ text ∷ []
split_only [] long = refl
split_only (b ∷ rest) long = only_step b rest (is_newline b) refl long (split_only rest)

map_first : (o : Option Entry) (line : List ℕ) (lines : List (List ℕ)) → entry_of line ≡ o → filter_map entry_of (line ∷ lines) ≡ option_to_list o ++ filter_map entry_of lines
map_first None line lines e = rw e refl
map_first (Some entry) line lines e = rw e refl

map_only : (o : Option Entry) (line : List ℕ) → entry_of line ≡ o → filter_map entry_of (line ∷ []) ≡ option_to_list o
map_only None line e = rw e refl
map_only (Some entry) line e = rw e refl

-- the entries of a text with a newline are that of its first line, and those of what follows
pub entries_found : (text : List ℕ) (at : ℕ) → position is_newline text ≡ Some at → mailmap_entries text ≡ option_to_list (entry_of (take at text)) ++ mailmap_entries (drop (at + 1) text)
entries_found text at some =
    let place = found is_newline text at _ refl some in
    let split = slice_split_first is_newline text 0 place.1 in
    ap (filter_map entry_of) (rw place.0 at split) ∙ map_first _ (take at text) (slice_split is_newline (drop (at + 1) text)) refl

-- without one, that of its only line
pub entries_missed : (text : List ℕ) → position is_newline text ≡ None → mailmap_entries text ≡ option_to_list (entry_of text)
entries_missed text none = ap (filter_map entry_of) (split_only text (missed is_newline text _ refl none)) ∙ map_only _ text refl
