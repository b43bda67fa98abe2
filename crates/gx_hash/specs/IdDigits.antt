-- The digits of ids, in lower case, as objects and scripts contain them.
use Rattle.std.specs.Prelude.{◌≡◌, ℕ, ◌*◌, ◌≤◌, ◌⊎◌, List, length, Ok}
use Rattle.std.specs.List.{AllByRecursion}
use Rattle.gx_hash.specs.declared.kind.HashKind.{HashKind}
use Rattle.gx_hash.specs.declared.oid.ObjectId.{ObjectId}
use Rattle.gx_hash.specs.HashKind.{kind_of, len_in_bytes, IsOfKind}
use Rattle.gx_hash.specs.ObjectId.{hex_of, id_from_hex}

-- A digit is one of 0 to 9 and a to f.
abbrev pub IsLowerHexDigit : ℕ → Type 0
IsLowerHexDigit b = ((48 ≤ b) × (b ≤ 57)) ⊎ ((97 ≤ b) × (b ≤ 102))

-- An id is written as its hex digits, two a byte, in lower case. (Git, "Git Internals - Git Objects")
pub record IsHexId (hash : HashKind) (text : List ℕ) : Type 0 where
  pub size : length text ≡ 2 * len_in_bytes hash
  pub digits : AllByRecursion IsLowerHexDigit text

-- an id's digits are those of its kind, as they are of each id that a program holds
abbrev pub HasOwnDigits : ObjectId → Type 0
HasOwnDigits id = IsHexId (kind_of id) (hex_of id)

-- an id of the kind that has these digits, and that they read as
pub record IdOfDigits (hash : HashKind) (text : List ℕ) : Type 0 where
  pub id : ObjectId
  pub reads : id_from_hex text ≡ Ok id
  pub writes : hex_of id ≡ text
  pub kind : IsOfKind hash id
