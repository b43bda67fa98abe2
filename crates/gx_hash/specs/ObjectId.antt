-- Ids of objects: what they are the digest of, how they are written, and how they are ordered.
use Rattle.std.specs.Prelude.{ℕ, List, [], ◌∷◌, ◌++◌, length, replicate, codes, Option, Some, None, decimal, ◌==◌, if◌then◌else◌, Result, Err}
use Rattle.std.specs.declared.cmp.Ordering.{Ordering}
use Rattle.std.specs.Ordering.{nat_cmp, ordering_then}
use Rattle.std.specs.Cmp.Lexicographic.{slice_cmp}
use Rattle.std.specs.Result.{result_map_both}
use Rattle.std.specs.Hash as fed
use Rattle.sha1.specs.Sha1.{sha1}
use Rattle.sha2.specs.Sha256.{sha256}
use Rattle.hex.specs.Hex.{encode_lower, decode_of}
use Rattle.hex.specs.declared.error.FromHexError.{FromHexError}
use Rattle.hex.specs.declared.error.FromHexError.TheVariants.{InvalidHexCharacter, OddLength, InvalidStringLength, OutOfMemory}
use Rattle.gx_hash.specs.declared.kind.HashKind.{HashKind}
use Rattle.gx_hash.specs.declared.kind.HashKind.TheVariants as hash_kind
use Rattle.gx_hash.specs.declared.oid.ObjectId.{ObjectId}
use Rattle.gx_hash.specs.declared.oid.ObjectId.TheVariants.{Sha1, Sha256}
use Rattle.gx_hash.specs.declared.oid.HexError.{HexError}
use Rattle.gx_hash.specs.declared.oid.HexError.TheVariants.{BadLength, BadDigit}

-- An object is hashed as its kind's name, a space, its size in decimal, a zero byte, and its bytes. (Git, "Git
-- Internals - Git Objects")
abbrev pub hashed_bytes : List ℕ → List ℕ → List ℕ
hashed_bytes kind_name bytes = kind_name ++ 32 ∷ decimal (length bytes) ++ 0 ∷ bytes

-- An object's id is the digest of those bytes. (FIPS 180-4; hash-function-transition)
unfoldable pub object_id : HashKind → List ℕ → List ℕ → ObjectId
object_id hash_kind.Sha1 kind_name bytes = Sha1 (sha1 (hashed_bytes kind_name bytes))
object_id hash_kind.Sha256 kind_name bytes = Sha256 (sha256 (hashed_bytes kind_name bytes))

-- the id's raw bytes
abbrev pub bytes_of : ObjectId → List ℕ
bytes_of (Sha1 bytes) = bytes
bytes_of (Sha256 bytes) = bytes

-- the id as it is printed: two lower-case hex digits a byte
abbrev pub hex_of : ObjectId → List ℕ
hex_of id = encode_lower (bytes_of id)

-- the id as it is shown for debugging: its kind's name, and the digits in parentheses
abbrev pub debug_text : ObjectId → List ℕ
debug_text (Sha1 bytes) = codes "Sha1(" ++ encode_lower bytes ++ codes ")"
debug_text (Sha256 bytes) = codes "Sha256(" ++ encode_lower bytes ++ codes ")"

-- SHA-1 comes before SHA-256
abbrev pub kind_rank : ObjectId → ℕ
kind_rank (Sha1 bytes) = 0
kind_rank (Sha256 bytes) = 1

-- Ids are ordered by their kind, and then by their bytes.
abbrev pub id_cmp : ObjectId → ObjectId → Ordering
id_cmp a b = ordering_then (nat_cmp (kind_rank a) (kind_rank b)) (slice_cmp nat_cmp (bytes_of a) (bytes_of b))

-- what an id feeds a hasher: its kind's number, and then its bytes
abbrev pub id_hash_input : ObjectId → List (List ℕ)
id_hash_input id = fed.usize (kind_rank id) ++ fed.slice fed.u8 (bytes_of id)

-- the id with zero bytes only, which names no object
abbrev pub null_id : HashKind → ObjectId
null_id hash_kind.Sha1 = Sha1 (replicate 20 0)
null_id hash_kind.Sha256 = Sha256 (replicate 32 0)

-- the id of the tree without entries
abbrev pub empty_tree_id : HashKind → ObjectId
empty_tree_id hash = object_id hash (codes "tree") []

-- the id of the blob without bytes
abbrev pub empty_blob_id : HashKind → ObjectId
empty_blob_id hash = object_id hash (codes "blob") []

-- the id with these bytes, where they are as many as the kind has
abbrev pub id_from_bytes : HashKind → List ℕ → Option ObjectId
id_from_bytes hash_kind.Sha1 bytes = if length bytes == 20 then Some (Sha1 bytes) else None
id_from_bytes hash_kind.Sha256 bytes = if length bytes == 32 then Some (Sha256 bytes) else None

-- why hex digits are refused, given how many there are: of an even number, for the first that is none
abbrev pub hex_error : ℕ → FromHexError → HexError
hex_error found (InvalidHexCharacter c at) = BadDigit at
hex_error found OddLength = BadLength found
hex_error found InvalidStringLength = BadLength found
hex_error found OutOfMemory = BadLength found

-- the bytes that pairs of hex digits of either case spell
abbrev pub bytes_from_hex : List ℕ → Result (List ℕ) HexError
bytes_from_hex digits = result_map_both (λ bytes. bytes) (hex_error (length digits)) (decode_of digits)

-- Forty digits spell a SHA-1 id, 64 a SHA-256 id, and no other number an id.
abbrev pub id_from_hex : List ℕ → Result ObjectId HexError
id_from_hex digits =
    if length digits == 40 then result_map_both Sha1 (hex_error 40) (decode_of digits)
    else if length digits == 64 then result_map_both Sha256 (hex_error 64) (decode_of digits)
    else Err (BadLength (length digits))
