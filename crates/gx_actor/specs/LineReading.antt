-- How the lines of a mailmap are read, part by part. What they mean is in `MailmapLine`.
use Rattle.std.specs.Prelude.{ℕ, ◌+◌, ◌==◌, nat_eq, Bool, true, List, codes, take, drop, Option, Some, None, option_map, option_and_then, if◌then◌else◌}
use Rattle.std.specs.List.{slice_split, filter_map, position, find, starts_with}
use Rattle.std.specs.Option.{option_map_or}
use Rattle.gx_object.specs.Message.{is_newline, is_no_space, unless_empty}
use Rattle.gx_actor.specs.declared.mailmap.entry.Entry.{Entry}
use Rattle.gx_actor.specs.MailmapLine.{trim}

-- what is before the first such byte, and what is after it (ours)
abbrev pub cut : ℕ → List ℕ → Option (List ℕ × List ℕ)
cut byte text = option_map (λ at. (take at text, drop (at + 1) text)) (position (λ b. b == byte) text)

-- a name and an email of a line, and what follows the email's `>` (ours)
pub record LinePart : Type 0 where
  pub name : List ℕ
  pub email : List ℕ
  pub rest : List ℕ

-- the first name and email: the email is between the first `<` and the first `>` after it, the name before it (ours)
abbrev pub part_of : List ℕ → Option LinePart
part_of text =
    option_and_then (λ opened.
    option_map (λ closed. record { name = trim opened.0; email = trim closed.0; rest = closed.1 }) (cut 62 opened.1))
    (cut 60 text)

-- white space alone, or a comment after it (ours)
abbrev pub is_end : List ℕ → Bool
is_end rest = option_map_or (λ b. b == 35) (find is_no_space rest) true

-- the entry of a name and an email, where both are there (ours)
abbrev pub one_email : Option (List ℕ) → Option (List ℕ) → Option Entry
one_email (Some name) (Some old_email) =
    Some (record { new_name = Some name; new_email = None; old_name = None; old_email = old_email })
one_email name email = None

-- the entry of two emails and the names before them, where these make one of the forms (ours)
abbrev pub two_emails : Option (List ℕ) → Option (List ℕ) → Option (List ℕ) → Option (List ℕ) → Option Entry
two_emails None (Some email) None (Some old_email) =
    Some (record { new_name = None; new_email = Some email; old_name = None; old_email = old_email })
two_emails (Some name) (Some email) None (Some old_email) =
    Some (record { new_name = Some name; new_email = Some email; old_name = None; old_email = old_email })
two_emails (Some name) (Some email) (Some old_name) (Some old_email) =
    Some (record { new_name = Some name; new_email = Some email; old_name = Some old_name; old_email = old_email })
two_emails name email old_name old_email = None

-- the entry of two parts, where the line ends after the second (ours)
abbrev pub entry_of_two : LinePart → LinePart → Option Entry
entry_of_two first second =
    if is_end second.rest
    then two_emails (unless_empty first.name) (unless_empty first.email)
    (unless_empty second.name) (unless_empty second.email)
    else None

-- the entry of a line from its first part on: it ends there, or has a second part (ours)
abbrev pub entry_of_parts : LinePart → Option Entry
entry_of_parts first =
    if is_end first.rest then one_email (unless_empty first.name) (unless_empty first.email)
    else option_and_then (entry_of_two first) (part_of first.rest)

-- the entry of a line, where it has one (ours)
abbrev pub entry_of : List ℕ → Option Entry
entry_of line =
    if starts_with nat_eq line (codes "#") then None else option_and_then entry_of_parts (part_of line)

-- the entries of a text, in the order of its lines (ours)
abbrev pub mailmap_entries : List ℕ → List Entry
mailmap_entries text = filter_map entry_of (slice_split is_newline text)
