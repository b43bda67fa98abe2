-- What the index of a mailmap finds.
use Rattle.std.proofs.Common.{◌≡◌, ◌+◌, ◌∙◌, ◌&&◌, ℕ, zero, suc, Bool, true, false, cond, Option, Some, None, List, [], ◌∷◌, drop, map, filter, unwrap_or, sym, ap, refl, if◌then◌else◌}
use Rattle.std.specs.List.{slice_get}
use Rattle.std.specs.Option.{option_or, option_and_then}
use Rattle.std.specs.Ordering.{is_eq, nat_cmp, ordering_then}
use Rattle.std.specs.Cmp.Lexicographic.{slice_cmp}
use Rattle.std.specs.declared.cmp.Ordering.{Ordering}
use Rattle.std.specs.declared.cmp.Ordering.TheVariants.{Less, Equal, Greater}
use Rattle.std.specs.Str.{bytes_eq, str_to_ascii_lowercase}
use Rattle.std.proofs.lemmas.List.{drop-drop}
use Rattle.std.proofs.lemmas.Map.Text.{is_eq-slice_cmp}
use Rattle.std.proofs.lemmas.Map.Lookups.{CmpEqualImpliesEq, exact_bytes, exact_pairs}
use Rattle.std.specs.BTreeMap.{BTreeMap, get, is_at}
use Rattle.gx_actor.proofs.SearchLemmas.{is_equal}
use Rattle.gx_object.specs.declared.signature.Signature.{Signature}
use Rattle.gx_actor.specs.declared.mailmap.entry.Entry.{Entry}
use Rattle.gx_actor.specs.declared.mailmap.index.Places.{Places}
use Rattle.gx_actor.specs.Index.{Key, IsIndex, key_cmp, key_of, is_keyed, look, place_of, placed, places_from, text_at, replaced}
use Rattle.gx_actor.specs.Mailmap.{or_without_name, entries_for, last_given, resolved}

-- two orders in turn tie where both do
tied_both : (a b : Ordering) → is_eq (ordering_then a b) ≡ is_eq a && is_eq b
tied_both Less b = refl
tied_both Equal b = refl
tied_both Greater b = refl

-- the key of an entry ties with those that are the entry's
pub tied_keyed : (other : Key) (entry : Entry) → is_eq (key_cmp (key_of entry.old_email (unwrap_or entry.old_name [])) other) ≡ is_keyed other entry
tied_keyed other entry =
    let email : List ℕ = str_to_ascii_lowercase entry.old_email in
    let name : List ℕ = str_to_ascii_lowercase (unwrap_or entry.old_name []) in
    tied_both _ _ ∙ ap (λ b. b && is_eq (slice_cmp nat_cmp name other.1)) (is_eq-slice_cmp email other.0) ∙ ap (λ b. bytes_eq email other.0 && b) (is_eq-slice_cmp name other.1)

-- the element at a place, and what follows it
pub get_drop : (entries : List Entry) (place : ℕ) (entry : Entry) (more : List Entry) → drop place entries ≡ entry ∷ more → slice_get entries place ≡ Some entry
get_drop [] zero entry more rest = cc
get_drop [] (suc place) entry more rest = cc
get_drop (x ∷ xs) zero entry more rest = cc
get_drop (x ∷ xs) (suc place) entry more rest = get_drop xs place entry more rest

pub next_drop : (entries : List Entry) (place : ℕ) (entry : Entry) (more : List Entry) → drop place entries ≡ entry ∷ more → drop (place + 1) entries ≡ more
next_drop entries place entry more rest = sym (drop-drop 1 place entries) ∙ ap (drop 1) rest

-- the place that is kept of a kind of text
abbrev pub kept : (Places → Option ℕ) → Option Places → Option ℕ
kept part None = None
kept part (Some places) = part places

or_none : (a : Option (List ℕ)) → option_or a None ≡ a
or_none None = refl
or_none (Some text) = refl

or_assoc : (a b c : Option (List ℕ)) → option_or a (option_or b c) ≡ option_or (option_or a b) c
or_assoc None b c = refl
or_assoc (Some text) b c = refl

-- what an entry more gives comes first
text_placed : (given : Entry → Option (List ℕ)) (entries : List Entry) (place : ℕ) (entry : Entry) (before : Option ℕ) (text : Option (List ℕ)) → given entry ≡ text → slice_get entries place ≡ Some entry → text_at given entries (place_of place text before) ≡ option_or text (text_at given entries before)
text_placed given entries place entry before None same at = refl
text_placed given entries place entry before (Some text) same at = ap (option_and_then given) at ∙ same

-- a part of the places says where the texts of a kind stand
pub record Keeps (given : Entry → Option (List ℕ)) (part : Places → Option ℕ) : Type 0 where
  pub at : (before : Option Places) (place : ℕ) (entry : Entry) → part (placed before place entry) ≡ place_of place (given entry) (kept part before)

pub keeps_name : Keeps (λ entry. entry.new_name) (λ places. places.name)
keeps_name = record { at = at_name }
  where
    at_name : (before : Option Places) (place : ℕ) (entry : Entry) → (placed before place entry).name ≡ place_of place entry.new_name (kept (λ places. places.name) before)
    at_name None place entry = refl
    at_name (Some before) place entry = refl

pub keeps_email : Keeps (λ entry. entry.new_email) (λ places. places.email)
keeps_email = record { at = at_email }
  where
    at_email : (before : Option Places) (place : ℕ) (entry : Entry) → (placed before place entry).email ≡ place_of place entry.new_email (kept (λ places. places.email) before)
    at_email None place entry = refl
    at_email (Some before) place entry = refl

-- one entry more, which is for the key or not
last_step : (given : Entry → Option (List ℕ)) (part : Places → Option ℕ) → Keeps given part → (key : Key) (entries : List Entry) (place : ℕ) (entry : Entry) (more found : List Entry) (before : Option Places) (b : Bool)
    → slice_get entries place ≡ Some entry
    → ((others : Option Places) → text_at given entries (kept part (places_from key (place + 1) more others)) ≡ option_or (last_given (map given found)) (text_at given entries (kept part others)))
    → text_at given entries (kept part (places_from key (place + 1) more (if b then Some (placed before place entry) else before))) ≡ option_or (last_given (map given (if b then entry ∷ found else found))) (text_at given entries (kept part before))
last_step given part keeps key entries place entry more found before true at rest =
    rest (Some (placed before place entry))
    ∙ ap (λ text. option_or (last_given (map given found)) text) (ap (text_at given entries) (keeps.at before place entry) ∙ text_placed given entries place entry (kept part before) (given entry) refl at)
    ∙ or_assoc (last_given (map given found)) (given entry) (text_at given entries (kept part before))
last_step given part keeps key entries place entry more found before false at rest = rest before

-- the texts at the places are the last that are given
pub last_places : (given : Entry → Option (List ℕ)) (part : Places → Option ℕ) → Keeps given part → (key : Key) (entries : List Entry) (place : ℕ) (more : List Entry) (before : Option Places)
    → drop place entries ≡ more → text_at given entries (kept part (places_from key place more before)) ≡ option_or (last_given (map given (filter (is_keyed key) more))) (text_at given entries (kept part before))
last_places given part keeps key entries place [] before rest = refl
last_places given part keeps key entries place (entry ∷ more) before rest =
    last_step given part keeps key entries place entry more (filter (is_keyed key) more) before (is_keyed key entry) (get_drop entries place entry more rest)
    (λ others. last_places given part keeps key entries (place + 1) more others (next_drop entries place entry more rest))

-- from the first entry on
pub last_of_all : (given : Entry → Option (List ℕ)) (part : Places → Option ℕ) → Keeps given part → (key : Key) (entries : List Entry) → text_at given entries (kept part (places_from key 0 entries None)) ≡ last_given (map given (filter (is_keyed key) entries))
last_of_all given part keeps key entries = last_places given part keeps key entries 0 entries None refl ∙ or_none _

-- places that are there stay
stays_step : (key : Key) (place : ℕ) (entry : Entry) (more : List Entry) (before : Places) (b : Bool) → ((others : Places) → places_from key (place + 1) more (Some others) ≡ None → ⊥) → places_from key (place + 1) more (if b then Some (placed (Some before) place entry) else Some before) ≡ None → ⊥
stays_step key place entry more before true rest none = rest (placed (Some before) place entry) none
stays_step key place entry more before false rest none = rest before none

stays : (key : Key) (place : ℕ) (more : List Entry) (before : Places) → places_from key place more (Some before) ≡ None → ⊥
stays key place [] before none = cc
stays key place (entry ∷ more) before none = stays_step key place entry more before (is_keyed key entry) (λ others. stays key (place + 1) more others) none

-- without places no entry is for the key
none_step : (key : Key) (place : ℕ) (entry : Entry) (more found : List Entry) (b : Bool) → (places_from key (place + 1) more None ≡ None → found ≡ []) → places_from key (place + 1) more (if b then Some (placed None place entry) else None) ≡ None → (if b then entry ∷ found else found) ≡ []
none_step key place entry more found true rest none = absurd (stays key (place + 1) more (placed None place entry) none)
none_step key place entry more found false rest none = rest none

pub none_for : (key : Key) (place : ℕ) (more : List Entry) → places_from key place more None ≡ None → filter (is_keyed key) more ≡ []
none_for key place [] none = refl
none_for key place (entry ∷ more) none = none_step key place entry more (filter (is_keyed key) more) (is_keyed key entry) (none_for key (place + 1) more) none

-- and with places some entry is
some_step : (key : Key) (place : ℕ) (entry : Entry) (more found : List Entry) (b : Bool) → (found ≡ [] → places_from key (place + 1) more None ≡ None) → (if b then entry ∷ found else found) ≡ [] → places_from key (place + 1) more (if b then Some (placed None place entry) else None) ≡ None
some_step key place entry more found true rest none = cc
some_step key place entry more found false rest none = rest none

pub some_for : (key : Key) (place : ℕ) (more : List Entry) → filter (is_keyed key) more ≡ [] → places_from key place more None ≡ None
some_for key place [] none = refl
some_for key place (entry ∷ more) none = some_step key place entry more (filter (is_keyed key) more) (is_keyed key entry) (some_for key (place + 1) more) none

-- entries for the name are those that count
named_first : (found entries : List Entry) (email : List ℕ) → (found ≡ [] → ⊥) → or_without_name found entries email ≡ found
named_first [] entries email some = absurd (some refl)
named_first (entry ∷ more) entries email some = refl

-- the identity with the last texts of some entries
abbrev pub with_last : List Entry → Signature → Signature
with_last found who = record {
  name = unwrap_or (last_given (map (λ entry. entry.new_name) found)) who.name;
  email = unwrap_or (last_given (map (λ entry. entry.new_email) found)) who.email;
  time = who.time;
}

same_identity : (name other email others : List ℕ) (who : Signature) → name ≡ other → email ≡ others → (let a : Signature = record { name = name; email = email; time = who.time } in a) ≡ record { name = other; email = others; time = who.time }
same_identity name other email others who e f = cc

-- the texts at the places that the index has are the last ones
pub replaced_last : (key : Key) (entries : List Entry) (places : Places) (who : Signature) → places_from key 0 entries None ≡ Some places → replaced entries places who ≡ with_last (filter (is_keyed key) entries) who
replaced_last key entries places who some =
    let name = sym (ap (λ p. text_at (λ entry. entry.new_name) entries (kept (λ places. places.name) p)) some) ∙ last_of_all (λ entry. entry.new_name) (λ places. places.name) keeps_name key entries in
    let email = sym (ap (λ p. text_at (λ entry. entry.new_email) entries (kept (λ places. places.email) p)) some) ∙ last_of_all (λ entry. entry.new_email) (λ places. places.email) keeps_email key entries in
    same_identity _ _ _ _ who (ap (λ text. unwrap_or text who.name) name) (ap (λ text. unwrap_or text who.email) email)

no_places : (key : Key) (entries : List Entry) (places : Places) → places_from key 0 entries None ≡ Some places → filter (is_keyed key) entries ≡ [] → ⊥
no_places key entries places some none = let empty = some_for key 0 entries none in cc

-- the keys of an identity: its name counts, or does not
abbrev pub named_key : Signature → Key
named_key who = key_of who.email who.name

abbrev pub bare_key : Signature → Key
bare_key who = key_of who.email []

-- what is found under the name
pub resolved_named : (entries : List Entry) (places : Places) (who : Signature) → places_from (named_key who) 0 entries None ≡ Some places → replaced entries places who ≡ resolved entries who
resolved_named entries places who some =
    let count : entries_for entries who ≡ filter (is_keyed (named_key who)) entries = named_first (filter (is_keyed (named_key who)) entries) entries who.email (no_places (named_key who) entries places some) in
    replaced_last (named_key who) entries places who some ∙ ap (λ f. with_last f who) (sym count)

-- where nothing is, the entries for the email alone count
only_email : (entries : List Entry) (who : Signature) → places_from (named_key who) 0 entries None ≡ None → entries_for entries who ≡ filter (is_keyed (bare_key who)) entries
only_email entries who none = ap (λ f. or_without_name f entries who.email) (none_for (named_key who) 0 entries none)

pub resolved_bare : (entries : List Entry) (places : Places) (who : Signature) → places_from (named_key who) 0 entries None ≡ None → places_from (bare_key who) 0 entries None ≡ Some places → replaced entries places who ≡ resolved entries who
resolved_bare entries places who none some = replaced_last (bare_key who) entries places who some ∙ ap (λ f. with_last f who) (sym (only_email entries who none))

pub resolved_none : (entries : List Entry) (who : Signature) → places_from (named_key who) 0 entries None ≡ None → places_from (bare_key who) 0 entries None ≡ None → who ≡ resolved entries who
resolved_none entries who none bare = ap (λ f. with_last f who) (sym (only_email entries who none ∙ none_for (bare_key who) 0 entries bare))

-- an identity's places, where the index has some for its name, for its email alone, or none
pub found_named : (entries : List Entry) (slots : List (Key × Places)) (places : Places) (who : Signature) (email name : List ℕ) → IsIndex entries slots → email ≡ who.email → name ≡ who.name → Some places ≡ look slots (key_of email name) → replaced entries places who ≡ resolved entries who
found_named entries slots places who email name index e n some =
    let here : Some places ≡ look slots (named_key who) = some ∙ ap (λ x. look slots (key_of x name)) e ∙ ap (λ x. look slots (key_of who.email x)) n in
    resolved_named entries places who (sym (here ∙ index.places (named_key who)))

pub found_bare : (entries : List Entry) (slots : List (Key × Places)) (places : Places) (who : Signature) (email name again : List ℕ) → IsIndex entries slots → email ≡ who.email → name ≡ who.name → again ≡ who.email → None ≡ look slots (key_of email name) → Some places ≡ look slots (key_of again []) → replaced entries places who ≡ resolved entries who
found_bare entries slots places who email name again index e n a none some =
    let named : None ≡ look slots (named_key who) = none ∙ ap (λ x. look slots (key_of x name)) e ∙ ap (λ x. look slots (key_of who.email x)) n in
    let bare : Some places ≡ look slots (bare_key who) = some ∙ ap (λ x. look slots (key_of x [])) a in
    resolved_bare entries places who (sym (named ∙ index.places (named_key who))) (sym (bare ∙ index.places (bare_key who)))

pub found_none : (entries : List Entry) (slots : List (Key × Places)) (who : Signature) (email name again : List ℕ) → IsIndex entries slots → email ≡ who.email → name ≡ who.name → again ≡ who.email → None ≡ look slots (key_of email name) → None ≡ look slots (key_of again []) → who ≡ resolved entries who
found_none entries slots who email name again index e n a none bare =
    let named : None ≡ look slots (named_key who) = none ∙ ap (λ x. look slots (key_of x name)) e ∙ ap (λ x. look slots (key_of who.email x)) n in
    let empty : None ≡ look slots (bare_key who) = bare ∙ ap (λ x. look slots (key_of x [])) a in
    resolved_none entries who (sym (named ∙ index.places (named_key who))) (sym (empty ∙ index.places (bare_key who)))

-- keys that tie are equal
exact_keys : CmpEqualImpliesEq key_cmp
exact_keys = exact_pairs _ _ exact_bytes exact_bytes

added_step : (old new : BTreeMap Key Places) (own key : Key) (place : ℕ) (entry : Entry) (value : Places) (b : Bool) → is_eq (key_cmp own key) ≡ b → value ≡ placed (get key_cmp old own) place entry → get key_cmp new key ≡ cond b (Some value) (get key_cmp old key) → get key_cmp new key ≡ (if b then Some (placed (get key_cmp old key) place entry) else get key_cmp old key)
added_step old new own key place entry value true tied same update =
    let equal : own ≡ key = exact_keys own key (is_equal _ tied) in
    update ∙ ap (λ v. Some v) (same ∙ ap (λ k. placed (get key_cmp old k) place entry) equal)
added_step old new own key place entry value false tied same update = update

-- an entry more changes the places of its key alone
pub added : (old new : BTreeMap Key Places) (own : Key) (place : ℕ) (entry : Entry) (value : Places) → own ≡ key_of entry.old_email (unwrap_or entry.old_name []) → value ≡ placed (get key_cmp old own) place entry → ((q : Key) → get key_cmp new q ≡ cond (is_at (key_cmp own) q) (Some value) (get key_cmp old q))
    → (key : Key) → get key_cmp new key ≡ (if is_keyed key entry then Some (placed (get key_cmp old key) place entry) else get key_cmp old key)
added old new own place entry value is same update key =
    let tied : is_eq (key_cmp own key) ≡ is_keyed key entry = ap (λ k. is_eq (key_cmp k key)) is ∙ tied_keyed key entry in
    added_step old new own key place entry value (is_keyed key entry) tied same (update key ∙ ap (λ b. cond b (Some value) (get key_cmp old key)) tied)
