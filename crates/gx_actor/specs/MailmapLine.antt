-- What the lines of a mailmap mean (gitmailmap(5)).
use Rattle.std.specs.Prelude.{◌≡◌, ◌⊎◌, ◌<◌, ℕ, nat_eq, List, [], ◌∷◌, ◌++◌, length, codes, Option, Some, None, IsTrue, MatchOption}
use Rattle.std.specs.List.{slice_split, filter_map, list_all, starts_with}
use Rattle.gx_object.specs.Message.{is_newline, is_space, trim_start, trim_end}
use Rattle.gx_object.specs.Split.{Lacks}
use Rattle.gx_actor.specs.declared.mailmap.entry.Entry.{Entry}

infixr 6 ◌⋅◌
-- a text of the first kind, and after it one of the second (ours)
abbrev pub ◌⋅◌ : (List ℕ → Type 0) → (List ℕ → Type 0) → List ℕ → Type 0
◌⋅◌ First Second text = (front : List ℕ) × (back : List ℕ) × (text ≡ front ++ back) × First front × Second back

-- white space alone, or nothing (ours)
abbrev pub IsBlank : List ℕ → Type 0
IsBlank text = IsTrue (list_all is_space text)

-- the text without white space at its ends (ours)
abbrev pub trim : List ℕ → List ℕ
trim text = trim_end (trim_start text)

-- A name, with white space round it or none. It has no `<`, and at least one byte. (gitmailmap(5), "Syntax")
pub record IsName (name text : List ℕ) : Type 0 where
  pub no_bracket : Lacks 60 text
  pub trimmed : trim text ≡ name
  pub some : 0 < length name

-- An email between `<` and the first `>` after it, with white space round it or none. It has at least one byte.
-- (gitmailmap(5), "Syntax"; that white space within the brackets goes is of gix-mailmap: Git keeps it)
pub record IsEmail (email text : List ℕ) : Type 0 where
  pub inside : List ℕ
  pub brackets : text ≡ 60 ∷ inside ++ 62 ∷ []
  pub no_bracket : Lacks 62 inside
  pub trimmed : trim inside ≡ email
  pub some : 0 < length email

-- A `#` begins a comment to the end of the line, also after the last email. (gitmailmap(5), "Syntax"; that nothing but
-- white space is before it there is ours)
abbrev pub IsEnd : List ℕ → Type 0
IsEnd text = IsBlank text
    ⊎ ((space : List ℕ) × (comment : List ℕ) × (text ≡ space ++ 35 ∷ comment) × IsBlank space)

-- A name after an email is no comment. (ours)
abbrev pub IsCommitName : List ℕ → List ℕ → Type 0
IsCommitName name text = IsName name text × ¬ IsEnd text

-- A line has one of four forms: `Proper Name <commit@email.xx>`, `<proper@email.xx> <commit@email.xx>`,
-- `Proper Name <proper@email.xx> <commit@email.xx>`, and
-- `Proper Name <proper@email.xx> Commit Name <commit@email.xx>`. (gitmailmap(5), "Syntax")
abbrev pub HasForm : Option (List ℕ) → Option (List ℕ) → Option (List ℕ) → List ℕ → List ℕ → Type 0
HasForm (Some name) None None old_email = IsName name ⋅ IsEmail old_email ⋅ IsEnd
HasForm None (Some email) None old_email = IsBlank ⋅ IsEmail email ⋅ IsBlank ⋅ IsEmail old_email ⋅ IsEnd
HasForm (Some name) (Some email) None old_email = IsName name ⋅ IsEmail email ⋅ IsBlank ⋅ IsEmail old_email ⋅ IsEnd
HasForm (Some name) (Some email) (Some old_name) old_email =
    IsName name ⋅ IsEmail email ⋅ IsCommitName old_name ⋅ IsEmail old_email ⋅ IsEnd
HasForm name email old_name old_email = λ line. ⊥

-- A line whose first byte is `#` is a comment. (gitmailmap(5), "Syntax")
abbrev pub IsComment : List ℕ → Type 0
IsComment line = IsTrue (starts_with nat_eq line (codes "#"))

-- a line of an entry: no comment, and in the form of what the entry gives (gitmailmap(5), "Syntax")
pub record IsLineOf (entry : Entry) (line : List ℕ) : Type 0 where
  pub no_comment : ¬ IsComment line
  pub form : HasForm entry.new_name entry.new_email entry.old_name entry.old_email line

-- A mailmap has the entries of its lines, in their order. Lines of no entry are passed over. (gitmailmap(5), "Syntax";
-- that lines of no form are passed over is ours)
pub record IsMailmap (text : List ℕ) (entries : List Entry) : Type 0 where
  pub meaning : List ℕ → Option Entry
  pub means : (line : List ℕ)
      → MatchOption (meaning line) ((entry : Entry) → ¬ IsLineOf entry line) (λ entry. IsLineOf entry line)
  pub in_order : entries ≡ filter_map meaning (slice_split is_newline text)
