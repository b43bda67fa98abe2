-- How an identity is read.
use Rattle.std.specs.Prelude.{◌≡◌, ◌⊎◌, ℕ, List, [], ◌∷◌, ◌++◌, Contains}
use Rattle.bstr.specs.BStr.{bstr_bytes}
use Rattle.gx_object.specs.declared.signature.decode.SignatureRef.{SignatureRef}
use Rattle.gx_object.specs.Message.{trim_start, trim_end}

-- the parts of an identity, as an object contains them
pub record IdentityText : Type 0 where
  pub name : List ℕ
  pub email : List ℕ
  pub time : List ℕ

-- the texts of an identity that was read
abbrev pub identity_text : SignatureRef → IdentityText
identity_text who = record { name = bstr_bytes who.name; email = bstr_bytes who.email; time = bstr_bytes who.time }

-- the text is `kept` with one space after it, or it is `kept` and has no space at its end
abbrev pub DropsSpaceBehind : List ℕ → List ℕ → Type 0
DropsSpaceBehind text kept = (text ≡ kept ++ 32 ∷ []) ⊎ ((text ≡ kept) × ((more : List ℕ) → text ≡ more ++ 32 ∷ [] → ⊥))

-- the text is `kept` with one space in front, or it is `kept` and has no space in front
abbrev pub DropsSpaceInFront : List ℕ → List ℕ → Type 0
DropsSpaceInFront text kept = (text ≡ 32 ∷ kept) ⊎ ((text ≡ kept) × ((more : List ℕ) → text ≡ 32 ∷ more → ⊥))

-- An identity is a name, an email in brackets and a time: the first `<` opens the brackets, and the last `>`, which
-- follows it, closes them. One space at the name's end, and one in front of the time, belong to neither. (Git,
-- git-fast-import, "committer"; that the email may contain brackets is ours)
pub record SpellsIdentity (line : List ℕ) (who : IdentityText) : Type 0 where
  pub before : List ℕ
  pub behind : List ℕ
  pub whole : line ≡ before ++ 60 ∷ who.email ++ 62 ∷ behind
  pub opens : Contains before 60 → ⊥
  pub closes : Contains behind 62 → ⊥
  pub name : DropsSpaceBehind before who.name
  pub time : DropsSpaceInFront behind who.time

-- an identity without white space at the ends of its name and email (Git, ident.c, "split_ident_line", leaves it out
-- after the name; the other three ends are ours)
abbrev pub trimmed : IdentityText → IdentityText
trimmed who = record { name = trim_end (trim_start who.name); email = trim_end (trim_start who.email); time = who.time }
