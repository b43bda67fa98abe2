-- Prefixes of ids: the first of an id's digits.
use Rattle.std.specs.Prelude.{◌≡◌, ℕ, List, take, length, Option, Some, None, option_map, Result, Ok}
use Rattle.std.specs.Result.{result_err}
use Rattle.gx_hash.specs.declared.kind.HashKind.{HashKind}
use Rattle.gx_hash.specs.declared.oid.ObjectId.{ObjectId}
use Rattle.gx_hash.specs.declared.oid.HexError.{HexError}
use Rattle.gx_hash.specs.declared.oid.HexError.TheVariants as hex_error
use Rattle.gx_hash.specs.declared.prefix.Prefix.{Prefix}
use Rattle.gx_hash.specs.declared.prefix.PrefixError.{PrefixError}
use Rattle.gx_hash.specs.declared.prefix.PrefixError.TheVariants.{TooLong, BadDigit}
use Rattle.gx_hash.specs.HashKind.{kind_of}
use Rattle.gx_hash.specs.ObjectId.{hex_of, id_from_hex}
use Rattle.gx_hash.specs.PrefixDigits.{padded, length_error, room_for}

-- the kind of the ids that the prefix is one of
abbrev pub prefix_kind : Prefix → HashKind
prefix_kind prefix = kind_of prefix.id

-- the digits of the prefix
abbrev pub prefix_digits : Prefix → List ℕ
prefix_digits prefix = take prefix.hex_len (hex_of prefix.id)

-- the prefix has the first digits of the id
pub record IsPrefixOf (id : ObjectId) (hex_len : ℕ) (prefix : Prefix) : Type 0 where
  pub kind : prefix_kind prefix ≡ kind_of id
  pub digits : prefix_digits prefix ≡ take hex_len (hex_of id)

-- The id is the least one that begins with the prefix: its other digits are zeros.
pub record IsLeast (prefix : Prefix) (id : ObjectId) : Type 0 where
  pub kind : kind_of id ≡ prefix_kind prefix
  pub digits : hex_of id ≡ padded (length (hex_of id)) (prefix_digits prefix)

-- the id that the digits spell, with zeros after them. A prefix of up to 40 digits is one of SHA-1 ids, and a longer
-- one of SHA-256 ids. (gix_hash::Prefix::from_hex; Git, git-rev-parse(1), "<sha1>")
abbrev pub padded_id : List ℕ → Result ObjectId HexError
padded_id digits = id_from_hex (padded (room_for (length digits)) digits)

-- why digits that are neither too few nor too many are refused
abbrev pub digit_error : HexError → PrefixError
digit_error (hex_error.BadDigit at) = BadDigit at
digit_error (hex_error.BadLength found) = TooLong found

-- the length's error, and else that of the digits
abbrev pub error_unless : Option PrefixError → List ℕ → Option PrefixError
error_unless (Some error) digits = Some error
error_unless None digits = option_map digit_error (result_err (padded_id digits))

-- Why digits spell no prefix: the number of digits is tested before them.
abbrev pub prefix_error : List ℕ → Option PrefixError
prefix_error digits = error_unless (length_error 64 (length digits)) digits

-- the prefix has the digits of the id that the text spells
abbrev pub IsSpelledBy : List ℕ → Prefix → Type 0
IsSpelledBy digits prefix = (id : ObjectId) × (padded_id digits ≡ Ok id) × IsPrefixOf id (length digits) prefix
