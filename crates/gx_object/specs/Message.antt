-- The parts of a commit's or a tag's message.
use Rattle.std.specs.Prelude.{ℕ, ◌+◌, ◌-◌, ◌==◌, ◌&&◌, ◌||◌, not, nat_le, Bool, List, length, take, drop, map, reverse, Option, Some, None, if◌then◌else◌}
use Rattle.std.specs.List.{zip, position, position_or_len, slice_split, join_with_byte}

-- space, tab, newline, vertical tab, form feed and carriage return (C, `isspace`; Git's own, in ctype.c, has neither
-- vertical tab nor form feed)
abbrev pub is_space : ℕ → Bool
is_space b = b == 32 || (nat_le 9 b && nat_le b 13)

-- any other byte
abbrev pub is_no_space : ℕ → Bool
is_no_space b = not (is_space b)

-- the text from its first byte on that is no white space
abbrev pub trim_start : List ℕ → List ℕ
trim_start text = drop (position_or_len is_no_space text) text

-- the text up to its last byte that is no white space
abbrev pub trim_end : List ℕ → List ℕ
trim_end text = take (length text - position_or_len is_no_space (reverse text)) text

-- where the first two adjacent newlines are
abbrev pub blank_line : List ℕ → Option ℕ
blank_line message = position (λ pair. pair.0 == 10 && pair.1 == 10) (zip message (drop 1 message))

-- what is before the empty line, if there is one
abbrev pub title_at : List ℕ → Option ℕ → List ℕ
title_at message None = message
title_at message (Some at) = take at message

-- the text, if it has a byte
abbrev pub unless_empty : List ℕ → Option (List ℕ)
unless_empty text = if length text == 0 then None else Some text

-- what follows the empty line, if that is not empty
abbrev pub body_at : List ℕ → Option ℕ → Option (List ℕ)
body_at message None = None
body_at message (Some at) = unless_empty (drop (at + 2) message)

-- The title of a message is what is before the first empty line, or the whole message where there is none.
-- (gix_object::commit::message; Git's title goes up to the first line of white space: git-commit, "Discussion")
abbrev pub title_of : List ℕ → List ℕ
title_of message = title_at message (blank_line message)

-- The body is what follows that line, where that is not empty.
abbrev pub body_of : List ℕ → Option (List ℕ)
body_of message = body_at message (blank_line message)

-- a newline
abbrev pub is_newline : ℕ → Bool
is_newline b = b == 10

-- the lines, without white space at their ends, joined by one space
abbrev pub joined_lines : List ℕ → List ℕ
joined_lines text = join_with_byte 32 (map trim_end (slice_split is_newline text))

-- A title is shown in one line: without white space at both ends, its lines joined by spaces.
-- (gix_object::commit::MessageRef::summary; Git's own is "%s" of git-log's PRETTY FORMATS)
abbrev pub summary_of_title : List ℕ → List ℕ
summary_of_title title = joined_lines (trim_end (trim_start title))

-- the summary of a message is that of its title
abbrev pub summary_of : List ℕ → List ℕ
summary_of message = summary_of_title (title_of message)
