-- What the index of a mailmap keeps.
use Rattle.std.specs.Prelude.{◌≡◌, ℕ, ◌+◌, ◌&&◌, List, [], ◌∷◌, Option, Some, None, Bool, unwrap_or, option_and_then, if◌then◌else◌}
use Rattle.std.specs.List.{slice_get}
use Rattle.std.specs.List.Sorted.{IsStrictlySortedBy}
use Rattle.std.specs.Ordering.{nat_cmp, ordering_then}
use Rattle.std.specs.declared.cmp.Ordering.{Ordering}
use Rattle.std.specs.BTreeMap.{is_at}
use Rattle.std.specs.Map.{lookup, keys_of}
use Rattle.std.specs.Cmp.Lexicographic.{slice_cmp}
use Rattle.std.specs.Str.{bytes_eq, str_to_ascii_lowercase}
use Rattle.gx_object.specs.declared.signature.Signature.{Signature}
use Rattle.gx_actor.specs.declared.mailmap.entry.Entry.{Entry}
use Rattle.gx_actor.specs.declared.mailmap.index.Places.{Places}

-- an old email and an old name, in lower case (ours)
abbrev pub Key : Type 0
Key = List ℕ × List ℕ

-- The key of an email and a name has both in lower case, since case does not count. (gitmailmap(5), "Syntax")
abbrev pub key_of : List ℕ → List ℕ → Key
key_of email name = (str_to_ascii_lowercase email, str_to_ascii_lowercase name)

-- keys are ordered by their emails, and those of one email by their names (ours)
abbrev pub key_cmp : Key → Key → Ordering
key_cmp a b = ordering_then (slice_cmp nat_cmp a.0 b.0) (slice_cmp nat_cmp a.1 b.1)

-- the key is that of the entry's old email and old name, which is empty where the entry has none (ours)
abbrev pub is_keyed : Key → Entry → Bool
is_keyed key entry =
    bytes_eq (str_to_ascii_lowercase entry.old_email) key.0
    && bytes_eq (str_to_ascii_lowercase (unwrap_or entry.old_name [])) key.1

-- this place, where the entry there gives a text, else the place before (ours)
abbrev pub place_of : {X : Type 0} → ℕ → Option X → Option ℕ → Option ℕ
place_of place None before = before
place_of place (Some text) before = Some place

-- the places after one more entry, which is at the given place (ours)
abbrev pub placed : Option Places → ℕ → Entry → Places
placed None place entry =
    record { name = place_of place entry.new_name None; email = place_of place entry.new_email None }
placed (Some before) place entry =
    record { name = place_of place entry.new_name before.name; email = place_of place entry.new_email before.email }

-- the places after more entries, the first of which is at the given place (ours)
abbrev pub places_from : Key → ℕ → List Entry → Option Places → Option Places
places_from key place [] before = before
places_from key place (entry ∷ more) before =
    places_from key (place + 1) more (if is_keyed key entry then Some (placed before place entry) else before)

-- the places that the slots have for a key (ours)
abbrev pub look : List (Key × Places) → Key → Option Places
look slots key = lookup (is_at (key_cmp key)) slots

-- the slots are in the order of their keys, and have for each key the places of its entries (ours)
pub record IsIndex (entries : List Entry) (slots : List (Key × Places)) : Type 0 where
  pub ascends : IsStrictlySortedBy key_cmp (keys_of slots)
  pub places : (key : Key) → look slots key ≡ places_from key 0 entries None

-- what the entry at the place gives, a new name or a new email (ours)
abbrev pub text_at : (Entry → Option (List ℕ)) → List Entry → Option ℕ → Option (List ℕ)
text_at given entries None = None
text_at given entries (Some place) = option_and_then given (slice_get entries place)

-- the identity with the name and the email that the entries at these places give (gitmailmap(5), "Syntax")
abbrev pub replaced : List Entry → Places → Signature → Signature
replaced entries places who = record {
  name = unwrap_or (text_at (λ entry. entry.new_name) entries places.name) who.name;
  email = unwrap_or (text_at (λ entry. entry.new_email) entries places.email) who.email;
  time = who.time;
}
