-- What is at the front of bytes: a line, and which line of a commit.
use Rattle.std.specs.Prelude.{◌≡◌, ◌≢◌, ℕ, ◌⊎◌, List, [], ◌∷◌, ◌++◌, codes, Option, None}
use Rattle.std.specs.List.{flat_map, AllByRecursion}
use Rattle.gx_hash.specs.declared.kind.HashKind.{HashKind}
use Rattle.gx_object.specs.Commit.{encoding_line}
use Rattle.gx_object.specs.IdentitySpelling.{IdentityText, SpellsIdentity}
use Rattle.gx_hash.specs.IdDigits.{IsHexId}
use Rattle.gx_object.specs.CommitSpelling.{IsOneLine, HeaderText, IsHeader, IsHeaderName, HasEncoding, raw_line, text_line}

-- the bytes do not begin with the word
abbrev pub IsNotBehind : List ℕ → List ℕ → Type 0
IsNotBehind word bytes = (rest : List ℕ) → bytes ≢ word ++ rest

-- a whole line and what follows it
pub record HasLine (bytes line rest : List ℕ) : Type 0 where
  pub is : bytes ≡ line ++ 10 ∷ rest
  pub one : IsOneLine line

-- the bytes contain no whole line
abbrev pub HasNoLine : List ℕ → Type 0
HasNoLine bytes = (line rest : List ℕ) → HasLine bytes line rest → ⊥

-- no whole line has the word and an id
abbrev pub IsNoIdLine : HashKind → List ℕ → List ℕ → Type 0
IsNoIdLine hash word bytes = (text rest : List ℕ) → IsHexId hash text → HasLine bytes (word ++ text) rest → ⊥

-- the bytes begin with a line of the word and this identity
pub record HasIdentityLine (word bytes : List ℕ) (who : IdentityText) (rest : List ℕ) : Type 0 where
  pub line : List ℕ
  pub is : bytes ≡ text_line word line ++ rest
  pub one : IsOneLine line
  pub spells : SpellsIdentity line who

-- no whole line has the word and an identity
abbrev pub IsNoIdentityLine : List ℕ → List ℕ → Type 0
IsNoIdentityLine word bytes =
    (line rest : List ℕ) (who : IdentityText) → SpellsIdentity line who → HasLine bytes (word ++ line) rest → ⊥

-- the line begins a header: its name and a space come first
abbrev pub IsHeaderLine : List ℕ → Type 0
IsHeaderLine line = (name text : List ℕ) × IsHeaderName name × (line ≡ name ++ 32 ∷ text)

-- no whole line goes on with a header
abbrev pub IsNoFold : List ℕ → Type 0
IsNoFold bytes = (line rest : List ℕ) → HasLine bytes (32 ∷ line) rest → ⊥

-- the bytes begin with a line that goes on with a header
pub record IsFold (bytes rest : List ℕ) : Type 0 where
  pub line : List ℕ
  pub has : HasLine bytes (32 ∷ line) rest

-- the bytes begin with the header, and the rest does not go on with it
pub record HasHeader (bytes : List ℕ) (h : HeaderText) (rest : List ℕ) : Type 0 where
  pub is : bytes ≡ raw_line h ++ rest
  pub header : IsHeader h
  pub ends : IsNoFold rest

-- no whole line begins a header
abbrev pub IsNoHeader : List ℕ → Type 0
IsNoHeader bytes = (line rest : List ℕ) → IsHeaderLine line → HasLine bytes line rest → ⊥

-- the line is a header's name, a space and a text
pub record SplitsName (line name text : List ℕ) : Type 0 where
  pub is : line ≡ name ++ 32 ∷ text
  pub name_is : IsHeaderName name

-- a whole line after each space in front
abbrev pub fold_line : List ℕ → List ℕ
fold_line line = 32 ∷ (line ++ 10 ∷ [])

-- the lines in front go on with a header
pub record Folds (bytes rest : List ℕ) : Type 0 where
  pub lines : List (List ℕ)
  pub is : bytes ≡ flat_map fold_line lines ++ rest
  pub each : AllByRecursion IsOneLine lines

-- and the rest doesn't
abbrev pub SkipsFolds : List ℕ → List ℕ → Type 0
SkipsFolds bytes rest = Folds bytes rest × IsNoFold rest

-- an encoding and further headers in front, and no further line of them after
pub record HasHeaders (bytes : List ℕ) (encoding : Option (List ℕ)) (headers : List HeaderText)
    (rest : List ℕ) : Type 0 where
  pub is : bytes ≡ encoding_line encoding ++ (flat_map raw_line headers ++ rest)
  pub encoding_is : HasEncoding encoding headers
  pub each : AllByRecursion IsHeader headers
  pub ends : IsNoHeader rest
  pub no_fold : ((encoding ≡ None) × (headers ≡ [])) ⊎ IsNoFold rest

-- headers in front were added
pub record AddsHeaders (bytes : List ℕ) (old new : List HeaderText) (rest : List ℕ) : Type 0 where
  pub added : List HeaderText
  pub new_is : new ≡ old ++ added
  pub is : bytes ≡ flat_map raw_line added ++ rest
  pub each : AllByRecursion IsHeader added
  pub no_fold : IsNoFold bytes → IsNoFold rest

-- and no further one follows
abbrev pub PushesHeaders : List ℕ → List HeaderText → List HeaderText → List ℕ → Type 0
PushesHeaders bytes old new rest = AddsHeaders bytes old new rest × IsNoHeader rest

-- parents in front
pub record AddsParents (hash : HashKind) (bytes : List ℕ) (parents : List (List ℕ)) (rest : List ℕ) : Type 0 where
  pub is : bytes ≡ flat_map (text_line (codes "parent ")) parents ++ rest
  pub ids : AllByRecursion (IsHexId hash) parents

-- and no further one follows
abbrev pub HasParents : HashKind → List ℕ → List (List ℕ) → List ℕ → Type 0
HasParents hash bytes parents rest = AddsParents hash bytes parents rest × IsNoIdLine hash (codes "parent ") rest
