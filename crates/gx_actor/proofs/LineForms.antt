-- What is read of a mailmap's line is what the line means.
use Rattle.std.proofs.Common.{◌≡◌, ◌<◌, ◌∙◌, ℕ, nat_eq, Bool, true, false, Option, Some, None, MatchOption, option_map, unwrap_or, List, [], ◌∷◌, ◌++◌, length, codes, refl, sym, ap, subst, inl, inr, append_assoc, if◌then◌else◌}
use Rattle.std.specs.List.{filter_map, cons_option, slice_split, starts_with}
use Rattle.std.specs.Option.{option_and_then}
use Rattle.std.proofs.lemmas.Bool.{cases_Bool}
use Rattle.gx_object.specs.Message.{is_newline, unless_empty}
use Rattle.gx_object.specs.Split.{Lacks}
use Rattle.gx_actor.specs.declared.mailmap.entry.Entry.{Entry}
use Rattle.gx_actor.specs.LineReading.{LinePart, cut, part_of, is_end, one_email, two_emails, entry_of, entry_of_parts, entry_of_two, mailmap_entries}
use Rattle.gx_actor.specs.MailmapLine.{◌⋅◌, IsBlank, IsName, IsEmail, IsEnd, IsCommitName, HasForm, IsLineOf, IsMailmap, trim}
use Rattle.gx_actor.proofs.LineTexts.{Cuts, cut_front, cut_lacks, cut_parts, named, is_named, is_nameless, trim_blank, blank_nameless, end_holds, end_is, blank_opens, name_opens, opens_name, blank_lacks}

abbrev part : List ℕ → List ℕ → List ℕ → LinePart
part name email rest = record { name = name; email = email; rest = rest }

abbrev entry : Option (List ℕ) → Option (List ℕ) → Option (List ℕ) → List ℕ → Entry
entry name email old_name old_email = record { new_name = name; new_email = email; old_name = old_name; old_email = old_email }

-- the part that is opened and closed
abbrev closed_part : List ℕ → List ℕ × List ℕ → LinePart
closed_part name closed = part (trim name) (trim closed.0) closed.1

abbrev opened_part : List ℕ × List ℕ → Option LinePart
opened_part opened = option_map (closed_part opened.0) (cut 62 opened.1)

-- a name and an email are read as they are written
part_front : (name inside rest : List ℕ) → Lacks 60 name → Lacks 62 inside → part_of (name ++ (60 ∷ (inside ++ 62 ∷ rest))) ≡ Some (part (trim name) (trim inside) rest)
part_front name inside rest opens close =
    ap (option_and_then opened_part) (cut_front 60 name (inside ++ 62 ∷ rest) opens)
    ∙ ap (option_map (closed_part name)) (cut_front 62 inside rest close)

bracketed : (inside rest : List ℕ) → (60 ∷ inside ++ 62 ∷ []) ++ rest ≡ 60 ∷ (inside ++ 62 ∷ rest)
bracketed inside rest = ap (λ x. 60 ∷ x) (append_assoc inside (62 ∷ []) rest)

part_read : (name written email rest : List ℕ) → Lacks 60 name → IsEmail email written → part_of (name ++ (written ++ rest)) ≡ Some (part (trim name) email rest)
part_read name written email rest opens is =
    ap (λ x. part_of (name ++ (x ++ rest))) is.brackets
    ∙ ap (λ x. part_of (name ++ x)) (bracketed is.inside rest)
    ∙ part_front name is.inside rest opens is.no_bracket
    ∙ ap (λ x. Some (part (trim name) x rest)) is.trimmed

-- and what is read is as it was written
record IsPart (text : List ℕ) (read : LinePart) : Type 0 where
  name : List ℕ
  inside : List ℕ
  whole : text ≡ name ++ ((60 ∷ inside ++ 62 ∷ []) ++ read.rest)
  no_open : Lacks 60 name
  no_close : Lacks 62 inside
  name_read : read.name ≡ trim name
  email_read : read.email ≡ trim inside

part_closed : (text front back : List ℕ) (o : Option (List ℕ × List ℕ)) (read : LinePart) → Cuts 60 text front back → cut 62 back ≡ o → option_map (closed_part front) o ≡ Some read → IsPart text read
part_closed text front back None read opened e some = cc
part_closed text front back (Some (inside, rest)) read opened e some =
    let closed = cut_parts 62 back inside rest e in
    let same : part (trim front) (trim inside) rest ≡ read = ap (λ o. unwrap_or o read) some in
    subst (IsPart text) same (record {
      name = front;
      inside = inside;
      whole = opened.is ∙ ap (λ x. front ++ 60 ∷ x) closed.is ∙ ap (λ x. front ++ x) (sym (bracketed inside rest));
      no_open = opened.lacks;
      no_close = closed.lacks;
      name_read = refl;
      email_read = refl;
    })

part_opened : (text : List ℕ) (o : Option (List ℕ × List ℕ)) (read : LinePart) → cut 60 text ≡ o → option_and_then opened_part o ≡ Some read → IsPart text read
part_opened text None read e some = cc
part_opened text (Some (front, back)) read e some = part_closed text front back _ read (cut_parts 60 text front back e) refl some

part_is : (text : List ℕ) (read : LinePart) → part_of text ≡ Some read → IsPart text read
part_is text read some = part_opened text _ read refl some

-- an email of a part
email_is : (text : List ℕ) (read : LinePart) (email : List ℕ) (is : IsPart text read) → unless_empty read.email ≡ Some email → IsEmail email (60 ∷ is.inside ++ 62 ∷ [])
email_is text read email is some =
    let found = is_named read.email email some in
    record { inside = is.inside; brackets = refl; no_bracket = is.no_close; trimmed = sym is.email_read ∙ found.same; some = found.some }

name_is : (text : List ℕ) (read : LinePart) (name : List ℕ) (is : IsPart text read) → unless_empty read.name ≡ Some name → IsName name is.name
name_is text read name is some =
    let found = is_named read.name name some in
    record { no_bracket = is.no_open; trimmed = sym is.name_read ∙ found.same; some = found.some }

no_name : (text : List ℕ) (read : LinePart) (is : IsPart text read) → unless_empty read.name ≡ None → IsBlank is.name
no_name text read is none = trim_blank is.name (sym is.name_read ∙ is_nameless read.name none)

-- Each form is read.
named_trim : (name text : List ℕ) → IsName name text → unless_empty (trim text) ≡ Some name
named_trim name text is = named (trim text) name is.trimmed is.some

there : (text : List ℕ) → 0 < length text → unless_empty text ≡ Some text
there text some = named text text refl some

one_read : (first : LinePart) (name email : Option (List ℕ)) → is_end first.rest ≡ true → unless_empty first.name ≡ name → unless_empty first.email ≡ email → entry_of_parts first ≡ one_email name email
one_read first name email end n e =
    ap (λ t. if t then one_email (unless_empty first.name) (unless_empty first.email) else option_and_then (entry_of_two first) (part_of first.rest)) end
    ∙ ap (λ x. one_email x (unless_empty first.email)) n ∙ ap (one_email name) e

two_read : (first second : LinePart) (name email old_name old_email : Option (List ℕ)) → is_end first.rest ≡ false → part_of first.rest ≡ Some second → is_end second.rest ≡ true
    → unless_empty first.name ≡ name → unless_empty first.email ≡ email → unless_empty second.name ≡ old_name → unless_empty second.email ≡ old_email
    → entry_of_parts first ≡ two_emails name email old_name old_email
two_read first second name email old_name old_email goes_on some end n e o d =
    ap (λ t. if t then one_email (unless_empty first.name) (unless_empty first.email) else option_and_then (entry_of_two first) (part_of first.rest)) goes_on
    ∙ ap (option_and_then (entry_of_two first)) some
    ∙ ap (λ t. if t then two_emails (unless_empty first.name) (unless_empty first.email) (unless_empty second.name) (unless_empty second.email) else None) end
    ∙ ap (λ x. two_emails x (unless_empty first.email) (unless_empty second.name) (unless_empty second.email)) n
    ∙ ap (λ x. two_emails name x (unless_empty second.name) (unless_empty second.email)) e
    ∙ ap (λ x. two_emails name email x (unless_empty second.email)) o
    ∙ ap (two_emails name email old_name) d

one_form : (line front back email rest name old_email : List ℕ) → line ≡ front ++ back → back ≡ email ++ rest → IsName name front → IsEmail old_email email → IsEnd rest
    → option_and_then entry_of_parts (part_of line) ≡ Some (entry (Some name) None None old_email)
one_form line front back email rest name old_email whole more n e end =
    ap (λ x. option_and_then entry_of_parts (part_of x)) (whole ∙ ap (λ x. front ++ x) more)
    ∙ ap (option_and_then entry_of_parts) (part_read front email old_email rest n.no_bracket e)
    ∙ one_read (part (trim front) old_email rest) (Some name) (Some old_email) (end_holds rest end) (named_trim name front n) (there old_email e.some)

-- the parts of a line with two emails
record TwoParts (line : List ℕ) (email old_email : List ℕ) : Type 0 where
  first : List ℕ
  bracket : List ℕ
  second : List ℕ
  closing : List ℕ
  rest : List ℕ
  whole : line ≡ first ++ (bracket ++ (second ++ (closing ++ rest)))
  is_email : IsEmail email bracket
  is_old : IsEmail old_email closing
  end : IsEnd rest

goes_on : (second closing rest old_email : List ℕ) → IsEmail old_email closing → ((more : List ℕ) → is_end (second ++ 60 ∷ more) ≡ false) → is_end (second ++ (closing ++ rest)) ≡ false
goes_on second closing rest old_email is opens = ap (λ x. is_end (second ++ (x ++ rest))) is.brackets ∙ opens ((is.inside ++ 62 ∷ []) ++ rest)

two_form : (name old_name : Option (List ℕ)) (email old_email line : List ℕ) (p : TwoParts line email old_email) → Lacks 60 p.first → unless_empty (trim p.first) ≡ name → Lacks 60 p.second → unless_empty (trim p.second) ≡ old_name → ((more : List ℕ) → is_end (p.second ++ 60 ∷ more) ≡ false)
    → option_and_then entry_of_parts (part_of line) ≡ two_emails name (Some email) old_name (Some old_email)
two_form name old_name email old_email line p first n second o opens =
    ap (λ x. option_and_then entry_of_parts (part_of x)) p.whole
    ∙ ap (option_and_then entry_of_parts) (part_read p.first p.bracket email (p.second ++ (p.closing ++ p.rest)) first p.is_email)
    ∙ two_read (part (trim p.first) email (p.second ++ (p.closing ++ p.rest))) (part (trim p.second) old_email p.rest) name (Some email) old_name (Some old_email)
    (goes_on p.second p.closing p.rest old_email p.is_old opens) (part_read p.second p.closing old_email p.rest second p.is_old) (end_holds p.rest p.end)
    n (there email p.is_email.some) o (there old_email p.is_old.some)

rows : (line a more b rest c last d e : List ℕ) → line ≡ a ++ more → more ≡ b ++ rest → rest ≡ c ++ last → last ≡ d ++ e → line ≡ a ++ (b ++ (c ++ (d ++ e)))
rows line a more b rest c last d e p q r s = p ∙ ap (λ x. a ++ x) (q ∙ ap (λ x. b ++ x) (r ∙ ap (λ x. c ++ x) s))

abbrev parts_of : (First Second : List ℕ → Type 0) (email old_email line : List ℕ) → (First ⋅ IsEmail email ⋅ Second ⋅ IsEmail old_email ⋅ IsEnd) line → TwoParts line email old_email
parts_of First Second email old_email line f = record {
  first = f.0;
  bracket = f.4.0;
  second = f.4.4.0;
  closing = f.4.4.4.0;
  rest = f.4.4.4.1;
  whole = rows line f.0 f.1 f.4.0 f.4.1 f.4.4.0 f.4.4.1 f.4.4.4.0 f.4.4.4.1 f.2 f.4.2 f.4.4.2 f.4.4.4.2;
  is_email = f.4.3;
  is_old = f.4.4.4.3;
  end = f.4.4.4.4;
}

form_read : (name email old_name : Option (List ℕ)) (old_email line : List ℕ) → HasForm name email old_name old_email line → option_and_then entry_of_parts (part_of line) ≡ Some (entry name email old_name old_email)
form_read (Some name) None None old_email line f = one_form line f.0 f.1 f.4.0 f.4.1 name old_email f.2 f.4.2 f.3 f.4.3 f.4.4
form_read None (Some email) None old_email line f =
    two_form None None email old_email line (parts_of IsBlank IsBlank email old_email line f) (blank_lacks f.0 f.3) (blank_nameless f.0 f.3) (blank_lacks f.4.4.0 f.4.4.3) (blank_nameless f.4.4.0 f.4.4.3) (λ more. blank_opens f.4.4.0 more f.4.4.3)
form_read (Some name) (Some email) None old_email line f =
    two_form (Some name) None email old_email line (parts_of (IsName name) IsBlank email old_email line f) f.3.no_bracket (named_trim name f.0 f.3) (blank_lacks f.4.4.0 f.4.4.3) (blank_nameless f.4.4.0 f.4.4.3) (λ more. blank_opens f.4.4.0 more f.4.4.3)
form_read (Some name) (Some email) (Some old_name) old_email line f =
    two_form (Some name) (Some old_name) email old_email line (parts_of (IsName name) (IsCommitName old_name) email old_email line f) f.3.no_bracket (named_trim name f.0 f.3) f.4.4.3.0.no_bracket (named_trim old_name f.4.4.0 f.4.4.3.0) (λ more. name_opens f.4.4.0 more f.4.4.3.1)
form_read None None None old_email line f = absurd f
form_read None None (Some old_name) old_email line f = absurd f
form_read None (Some email) (Some old_name) old_email line f = absurd f
form_read (Some name) None (Some old_name) old_email line f = absurd f

-- What is read has a form.
form_of : (line : List ℕ) (found given : Entry) → Some found ≡ Some given → HasForm found.new_name found.new_email found.old_name found.old_email line → HasForm given.new_name given.new_email given.old_name given.old_email line
form_of line found given same form = subst (λ (e : Entry). HasForm e.new_name e.new_email e.old_name e.old_email line) (ap (λ o. unwrap_or o found) same) form

one_is : (line : List ℕ) (first : LinePart) (given : Entry) (name email : Option (List ℕ)) → IsPart line first → IsEnd first.rest → unless_empty first.name ≡ name → unless_empty first.email ≡ email → one_email name email ≡ Some given
    → HasForm given.new_name given.new_email given.old_name given.old_email line
one_is line first given (Some name) (Some email) is end n e some =
    form_of line (entry (Some name) None None email) given some
    (is.name, (60 ∷ is.inside ++ 62 ∷ []) ++ first.rest, is.whole, name_is line first name is n, (60 ∷ is.inside ++ 62 ∷ [], first.rest, refl, email_is line first email is e, end))
one_is line first given None email is end n e some = cc
one_is line first given (Some name) None is end n e some = cc

-- the parts of a line, in a row
in_row : (First Second : List ℕ → Type 0) (line : List ℕ) (first second : LinePart) (email old_email : List ℕ) (is : IsPart line first) (more : IsPart first.rest second) → First is.name → Second more.name → unless_empty first.email ≡ Some email → unless_empty second.email ≡ Some old_email → IsEnd second.rest
    → (First ⋅ IsEmail email ⋅ Second ⋅ IsEmail old_email ⋅ IsEnd) line
in_row First Second line first second email old_email is more p q e d end = (
  is.name,
  (60 ∷ is.inside ++ 62 ∷ []) ++ first.rest,
  is.whole,
  p,
  (
    60 ∷ is.inside ++ 62 ∷ [],
    first.rest,
    refl,
    email_is line first email is e,
    (
      more.name,
      (60 ∷ more.inside ++ 62 ∷ []) ++ second.rest,
      more.whole,
      q,
      (60 ∷ more.inside ++ 62 ∷ [], second.rest, refl, email_is first.rest second old_email more d, end),
    ),
  ),
)

commit_name : (text : List ℕ) (second : LinePart) (name : List ℕ) (more : IsPart text second) → is_end text ≡ false → unless_empty second.name ≡ Some name → IsCommitName name more.name
commit_name text second name more opens some =
    (name_is text second name more some, opens_name more.name ((60 ∷ more.inside ++ 62 ∷ []) ++ second.rest) name (ap is_end (sym more.whole) ∙ opens) (ap unless_empty (sym more.name_read) ∙ some))

two_is : (line : List ℕ) (first second : LinePart) (given : Entry) (name email old_name old_email : Option (List ℕ)) → IsPart line first → IsPart first.rest second → is_end first.rest ≡ false → IsEnd second.rest
    → unless_empty first.name ≡ name → unless_empty first.email ≡ email → unless_empty second.name ≡ old_name → unless_empty second.email ≡ old_email → two_emails name email old_name old_email ≡ Some given
    → HasForm given.new_name given.new_email given.old_name given.old_email line
two_is line first second given None (Some email) None (Some old_email) is more opens end n e o d some =
    form_of line (entry None (Some email) None old_email) given some (in_row IsBlank IsBlank line first second email old_email is more (no_name line first is n) (no_name first.rest second more o) e d end)
two_is line first second given (Some name) (Some email) None (Some old_email) is more opens end n e o d some =
    form_of line (entry (Some name) (Some email) None old_email) given some (in_row (IsName name) IsBlank line first second email old_email is more (name_is line first name is n) (no_name first.rest second more o) e d end)
two_is line first second given (Some name) (Some email) (Some old_name) (Some old_email) is more opens end n e o d some =
    form_of line (entry (Some name) (Some email) (Some old_name) old_email) given some (in_row (IsName name) (IsCommitName old_name) line first second email old_email is more (name_is line first name is n) (commit_name first.rest second old_name more opens o) e d end)
two_is line first second given None None old_name old_email is more opens end n e o d some = cc
two_is line first second given (Some name) None old_name old_email is more opens end n e o d some = cc
two_is line first second given None (Some email) None None is more opens end n e o d some = cc
two_is line first second given None (Some email) (Some old_name) old_email is more opens end n e o d some = cc
two_is line first second given (Some name) (Some email) None None is more opens end n e o d some = cc
two_is line first second given (Some name) (Some email) (Some old_name) None is more opens end n e o d some = cc

second_is : (line : List ℕ) (first second : LinePart) (given : Entry) (t : Bool) → IsPart line first → IsPart first.rest second → is_end first.rest ≡ false → is_end second.rest ≡ t
    → (if t then two_emails (unless_empty first.name) (unless_empty first.email) (unless_empty second.name) (unless_empty second.email) else None) ≡ Some given
    → HasForm given.new_name given.new_email given.old_name given.old_email line
second_is line first second given true is more opens end some = two_is line first second given _ _ _ _ is more opens (end_is second.rest end) refl refl refl refl some
second_is line first second given false is more opens end some = cc

more_is : (line : List ℕ) (first : LinePart) (given : Entry) (o : Option LinePart) → IsPart line first → is_end first.rest ≡ false → part_of first.rest ≡ o → option_and_then (entry_of_two first) o ≡ Some given
    → HasForm given.new_name given.new_email given.old_name given.old_email line
more_is line first given None is opens e some = cc
more_is line first given (Some second) is opens e some = second_is line first second given _ is (part_is first.rest second e) opens refl some

first_is : (line : List ℕ) (first : LinePart) (given : Entry) (t : Bool) → IsPart line first → is_end first.rest ≡ t
    → (if t then one_email (unless_empty first.name) (unless_empty first.email) else option_and_then (entry_of_two first) (part_of first.rest)) ≡ Some given
    → HasForm given.new_name given.new_email given.old_name given.old_email line
first_is line first given true is end some = one_is line first given _ _ is (end_is first.rest end) refl refl some
first_is line first given false is end some = more_is line first given _ is end refl some

line_is : (line : List ℕ) (given : Entry) (o : Option LinePart) → part_of line ≡ o → option_and_then entry_of_parts o ≡ Some given → HasForm given.new_name given.new_email given.old_name given.old_email line
line_is line given None e some = cc
line_is line given (Some first) e some = first_is line first given _ (part_is line first e) refl some

-- comments aside
entry_cases : (line : List ℕ) (given : Entry) (t : Bool) → starts_with nat_eq line (codes "#") ≡ t → (if t then None else option_and_then entry_of_parts (part_of line)) ≡ Some given → IsLineOf given line
entry_cases line given true e some = cc
entry_cases line given false e some = record { no_comment = λ comment. cc; form = line_is line given _ refl some }

entry_is : (line : List ℕ) (given : Entry) → entry_of line ≡ Some given → IsLineOf given line
entry_is line given some = entry_cases line given _ refl some

pub line_read : (line : List ℕ) (given : Entry) → IsLineOf given line → entry_of line ≡ Some given
line_read line given is =
    elim (cases_Bool (starts_with nat_eq line (codes "#"))) [
      | inl comment ↦ absurd (is.no_comment comment)
      | inr other ↦
          ap (λ t. if t then None else option_and_then entry_of_parts (part_of line)) other
          ∙ form_read given.new_name given.new_email given.old_name given.old_email line is.form
    ]

means_cases : (line : List ℕ) (o : Option Entry) → entry_of line ≡ o → MatchOption o ((given : Entry) → ¬ IsLineOf given line) (λ given. IsLineOf given line)
means_cases line None e = λ given is. let some = line_read line given is in cc
means_cases line (Some given) e = entry_is line given e

-- the entries that are read of a text are those of its mailmap
pub mailmap_read : (text : List ℕ) (entries : List Entry) → entries ≡ mailmap_entries text → IsMailmap text entries
mailmap_read text entries same = record { meaning = entry_of; means = λ line. means_cases line _ refl; in_order = same }

-- A line has one entry at most, and a text one list of entries.
pub line_once : (line : List ℕ) (a b : Entry) → IsLineOf a line → IsLineOf b line → a ≡ b
line_once line a b p q = ap (λ o. unwrap_or o a) (sym (line_read line a p) ∙ line_read line b q)

same_meaning : (line : List ℕ) (a b : Option Entry) → MatchOption a ((given : Entry) → ¬ IsLineOf given line) (λ given. IsLineOf given line) → MatchOption b ((given : Entry) → ¬ IsLineOf given line) (λ given. IsLineOf given line) → a ≡ b
same_meaning line None None p q = refl
same_meaning line None (Some b) p q = absurd (p b q)
same_meaning line (Some a) None p q = absurd (q a p)
same_meaning line (Some a) (Some b) p q = ap (λ x. Some x) (line_once line a b p q)

same_entries : (f g : List ℕ → Option Entry) → ((line : List ℕ) → f line ≡ g line) → (lines : List (List ℕ)) → filter_map f lines ≡ filter_map g lines
same_entries f g same [] = refl
same_entries f g same (line ∷ lines) = ap (λ o. cons_option o (filter_map f lines)) (same line) ∙ ap (cons_option (g line)) (same_entries f g same lines)

pub mailmap_once : (text : List ℕ) (a b : List Entry) → IsMailmap text a → IsMailmap text b → a ≡ b
mailmap_once text a b p q =
    p.in_order ∙ same_entries p.meaning q.meaning (λ line. same_meaning line (p.meaning line) (q.meaning line) (p.means line) (q.means line)) (slice_split is_newline text) ∙ sym q.in_order

-- a blank line has no entry
pub blank_line : (line : List ℕ) (given : Entry) → IsBlank line → ¬ IsLineOf given line
blank_line line given blank is =
    let none : part_of line ≡ None = ap (option_and_then opened_part) (cut_lacks 60 line (blank_lacks line blank)) in
    let some = form_read given.new_name given.new_email given.old_name given.old_email line is.form in
    let nothing : option_and_then entry_of_parts (part_of line) ≡ None = ap (option_and_then entry_of_parts) none in
    cc
