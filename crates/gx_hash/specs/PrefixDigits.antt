-- The digits that a prefix of ids keeps, and how many they may be.
use Rattle.std.specs.Prelude.{◌≡◌, ℕ, ◌≤◌, ◌*◌, ◌-◌, nat_lt, nat_le, List, ◌++◌, take, length, replicate, Option, Some, None, if◌then◌else◌}
use Rattle.gx_hash.specs.declared.kind.HashKind.{HashKind}
use Rattle.gx_hash.specs.declared.oid.ObjectId.{ObjectId}
use Rattle.gx_hash.specs.declared.prefix.PrefixError.{PrefixError}
use Rattle.gx_hash.specs.declared.prefix.PrefixError.TheVariants.{TooLong, TooShort}
use Rattle.gx_hash.specs.HashKind.{len_in_bytes}
use Rattle.gx_hash.specs.ObjectId.{hex_of}

-- how many digits an id of the kind has
abbrev pub len_in_hex : HashKind → ℕ
len_in_hex hash = 2 * len_in_bytes hash

-- some digits, with zeros after them up to the digits of a whole id
abbrev pub padded : ℕ → List ℕ → List ℕ
padded len digits = digits ++ replicate (len - length digits) 48

-- A prefix has at most as many digits as an id, and at least four. (Git, git-rev-parse(1), "--short")
abbrev pub length_error : ℕ → ℕ → Option PrefixError
length_error most found =
    if nat_lt most found then Some (TooLong found)
    else if nat_lt found 4 then Some (TooShort found)
    else None

-- how many digits the shortest kind of id has that has room for this many
abbrev pub room_for : ℕ → ℕ
room_for found = if nat_le found 40 then 40 else 64

-- The id keeps some of its digits, at least four, and has zeros after them.
pub record IsCut (hex_len : ℕ) (id : ObjectId) : Type 0 where
  pub least : 4 ≤ hex_len
  pub most : hex_len ≤ length (hex_of id)
  pub zeros : hex_of id ≡ padded (length (hex_of id)) (take hex_len (hex_of id))
