-- Which name and email a mailmap gives.
use Rattle.std.specs.Prelude.{ℕ, ◌&&◌, Bool, List, [], ◌∷◌, Option, None, unwrap_or, filter, map}
use Rattle.std.specs.Option.{option_or}
use Rattle.std.specs.Str.{str_eq_ignore_ascii_case}
use Rattle.gx_object.specs.declared.signature.Signature.{Signature}
use Rattle.gx_actor.specs.declared.mailmap.entry.Entry.{Entry}

-- Names and emails match without regard to the case of ASCII letters. (gitmailmap(5), "Syntax"; that an entry without
-- an old name has the empty one is ours)
abbrev pub is_for : List ℕ → List ℕ → Entry → Bool
is_for name email entry =
    str_eq_ignore_ascii_case entry.old_email email
    && str_eq_ignore_ascii_case (unwrap_or entry.old_name []) name

-- the given entries, or where there are none those of all entries that are for the email alone (mailmap.c, "map_user")
abbrev pub or_without_name : List Entry → List Entry → List ℕ → List Entry
or_without_name [] entries email = filter (is_for [] email) entries
or_without_name (entry ∷ more) entries email = entry ∷ more

-- the entries for the name and the email, or where there are none those for the email alone (mailmap.c, "map_user")
abbrev pub entries_for : List Entry → Signature → List Entry
entries_for entries who = or_without_name (filter (is_for who.name who.email) entries) entries who.email

-- the last text that is given (mailmap.c, "add_mapping")
abbrev pub last_given : List (Option (List ℕ)) → Option (List ℕ)
last_given [] = None
last_given (text ∷ more) = option_or (last_given more) text

-- The entries for the name and the email count, or where there are none those for the email alone. Of the entries that
-- count, the last that gives a name replaces the name, and the last that gives an email replaces the email.
-- (gitmailmap(5), "Syntax"; mailmap.c, "map_user" and "add_mapping")
abbrev pub resolved : List Entry → Signature → Signature
resolved entries who =
    let found : List Entry = entries_for entries who in
    record {
      name = unwrap_or (last_given (map (λ entry. entry.new_name) found)) who.name;
      email = unwrap_or (last_given (map (λ entry. entry.new_email) found)) who.email;
      time = who.time;
    }
