-- Glob patterns, and the names that they match. The rules are those of glob(7), "Wildcard matching", with these
-- differences: a slash and a leading dot are bytes as any other, `^` negates a set as `!` does, a backslash takes the
-- next byte as it is in a set too, and no set has classes as `[:alpha:]`.
use Rattle.std.specs.Prelude.{◌≡◌, ℕ, Bool, true, false, ◌||◌, ◌&&◌, ◌==◌, nat_le, List, [], ◌∷◌, ◌++◌, length, codes}
use Rattle.std.specs.List.{list_any}

-- A byte of a pattern is bare, or after a backslash that takes its meaning from it. (glob(7): "One can remove the
-- special meaning of '?', '*', and '[' by preceding them by a backslash")
pub data Letter : Type 0 where
  Bare : ℕ → Letter
  Escaped : ℕ → Letter

-- the byte of a letter
abbrev pub byte_of : Letter → ℕ
byte_of (Bare byte) = byte
byte_of (Escaped byte) = byte

-- the letter is the byte, with its meaning
abbrev pub is_bare : ℕ → Letter → Bool
is_bare byte (Bare other) = other == byte
is_bare byte (Escaped other) = false

-- The letters of a text: a backslash takes the next byte as it is, and one that nothing follows stays bare.
unfoldable pub letters : List ℕ → List Letter
letters [] = []
letters (last ∷ []) = Bare last ∷ []
letters (byte ∷ next ∷ text) =
    elim (byte == 92) [
      | true ↦ Escaped next ∷ letters text
      | false ↦ Bare byte ∷ letters (next ∷ text)
    ]

-- The letters of a set contain bytes. They are read from the left: a letter, a bare `-` and another letter contain the
-- bytes from the one to the other, which are none where the first is the greater, and any other letter contains its
-- own byte. (glob(7): "two characters separated by '-' denote a range"; "One may include '-' in its literal meaning by
-- making it the first or last character")
unfoldable pub holds : List Letter → ℕ → Bool
holds [] byte = false
holds (one ∷ []) byte = byte_of one == byte
holds (one ∷ other ∷ []) byte = byte_of one == byte || byte_of other == byte
holds (one ∷ dash ∷ other ∷ more) byte =
    elim (is_bare 45 dash) [
      | true ↦ nat_le (byte_of one) byte && nat_le byte (byte_of other) || holds more byte
      | false ↦ byte_of one == byte || holds (dash ∷ other ∷ more) byte
    ]

-- What a pattern consists of: a letter that matches its byte, `?`, `*`, and a set with its members, plain or negated.
pub data Piece : Type 0 where
  Plain : Letter → Piece
  AnyByte : Piece
  AnyBytes : Piece
  OneOf : List Letter → Piece
  NoneOf : List Letter → Piece

-- a bare `*`, `?`, `[` or backslash does not match itself
abbrev pub is_special : Letter → Bool
is_special letter = list_any (λ byte. is_bare byte letter) (codes "*?[\\")

-- a bare `!` or `^` in front of a set's members negates it
abbrev pub is_negation : Letter → Bool
is_negation letter = is_bare 33 letter || is_bare 94 letter

-- A set has a member, and a bare `]` is one only where it comes first. (glob(7): "The string enclosed by the brackets
-- cannot be empty; therefore ']' can be allowed between the brackets, provided that it is the first character")
abbrev pub AreMembers : List Letter → Type 0
AreMembers [] = ⊥
AreMembers (first ∷ more) = list_any (is_bare 93) more ≡ false

-- the set is negated
abbrev pub begins_negated : List Letter → Bool
begins_negated [] = false
begins_negated (first ∷ more) = is_negation first

-- the letters are the piece, and then the rest
unfoldable pub Begins : Piece → List Letter → List Letter → Type 0
Begins (Plain letter) all rest = (is_special letter ≡ false) × (all ≡ letter ∷ rest)
Begins AnyByte all rest = all ≡ Bare 63 ∷ rest
Begins AnyBytes all rest = all ≡ Bare 42 ∷ rest
Begins (OneOf members) all rest =
    AreMembers members × (begins_negated members ≡ false) × (all ≡ Bare 91 ∷ (members ++ Bare 93 ∷ rest))
Begins (NoneOf members) all rest =
    (sign : Letter) × AreMembers members × (is_negation sign ≡ true)
    × (all ≡ Bare 91 ∷ sign ∷ (members ++ Bare 93 ∷ rest))

-- The letters are the pieces in a row. A set that is not closed is no piece, nor is a last backslash: a pattern with
-- one spells no pieces, and matches no name.
unfoldable pub Spells : List Piece → List Letter → Type 0
Spells [] all = all ≡ []
Spells (piece ∷ pieces) all = (rest : List Letter) × Begins piece all rest × Spells pieces rest

-- The bytes that a piece takes: `*` any bytes, and each other piece one.
unfoldable pub Takes : Piece → List ℕ → Type 0
Takes (Plain letter) bytes = bytes ≡ byte_of letter ∷ []
Takes AnyByte bytes = length bytes ≡ 1
Takes AnyBytes bytes = Unit {0}
Takes (OneOf members) bytes = (byte : ℕ) × (bytes ≡ byte ∷ []) × (holds members byte ≡ true)
Takes (NoneOf members) bytes = (byte : ℕ) × (bytes ≡ byte ∷ []) × (holds members byte ≡ false)

-- the name is bytes in a row that the pieces take, one after the other
unfoldable pub Matches : List Piece → List ℕ → Type 0
Matches [] name = name ≡ []
Matches (piece ∷ pieces) name = (front rest : List ℕ) × (name ≡ front ++ rest) × Takes piece front × Matches pieces rest

-- the letters are pieces that take the name
unfoldable pub AreMatch : List Letter → List ℕ → Type 0
AreMatch all name = (pieces : List Piece) × Spells pieces all × Matches pieces name

-- The pattern matches the name: its letters are pieces that take the whole name.
abbrev pub IsMatch : List ℕ → List ℕ → Type 0
IsMatch text name = AreMatch (letters text) name

-- the bytes by which a pattern matches other names than one
abbrev pub is_wildcard : ℕ → Bool
is_wildcard byte = list_any (λ c. c == byte) (codes "*?[")
