-- The order of ids tells all ids apart; how they are hashed and read.
use Rattle.std.proofs.Common.{◌≡◌, ℕ, List, length, Ok, ap, refl, arith}
use Rattle.std.specs.FinMap.{IsAntisymmetric, slice_cmp-IsAntisymmetric, nat_cmp-IsAntisymmetric}
use Rattle.hex.specs.Hex.{IsBytes, encode_lower, lower_digits}
use Rattle.hex.proofs.HexLemmas.{length-encode_with, decode_of-encode_lower}
use Rattle.gx_hash.specs.declared.oid.ObjectId.{ObjectId}
use Rattle.gx_hash.specs.declared.oid.ObjectId.TheVariants.{Sha1, Sha256}
use Rattle.gx_hash.specs.contracts.oid.ObjectIdHash.TheImpl as derived_hash
use Rattle.gx_hash.specs.ObjectId.{id_cmp, id_hash_input, bytes_of, hex_of, id_from_hex}
use Rattle.gx_hash.specs.ObjectIds.{derived_cmp}
use Rattle.gx_hash.specs.HashKind.{kind_of, len_in_bytes}

-- ids that compare as equal are one
pub id_cmp-IsAntisymmetric : IsAntisymmetric id_cmp
id_cmp-IsAntisymmetric (Sha1 a) (Sha1 b) e = ap Sha1 (slice_cmp-IsAntisymmetric nat_cmp-IsAntisymmetric a b e)
id_cmp-IsAntisymmetric (Sha256 a) (Sha256 b) e = ap Sha256 (slice_cmp-IsAntisymmetric nat_cmp-IsAntisymmetric a b e)
id_cmp-IsAntisymmetric (Sha1 a) (Sha256 b) e = cc
id_cmp-IsAntisymmetric (Sha256 a) (Sha1 b) e = cc

-- `cmp` goes by kind and bytes
pub derived_cmp-id_cmp : derived_cmp ≡ id_cmp
derived_cmp-id_cmp = refl

-- what `derive(Hash)` feeds a hasher
pub derived_hash-id_hash_input : (id : ObjectId) → (derived_hash.ghosts).hash_input id ≡ id_hash_input id
derived_hash-id_hash_input (Sha1 bytes) = refl
derived_hash-id_hash_input (Sha256 bytes) = refl

read_sha1 : (bytes : List ℕ) → length bytes ≡ 20 → IsBytes bytes → id_from_hex (encode_lower bytes) ≡ Ok (Sha1 bytes)
read_sha1 bytes len range =
    let digits : length (encode_lower bytes) ≡ 40 = omega (arith, length-encode_with lower_digits bytes, len) in
    rw (decode_of-encode_lower bytes range, digits) refl

read_sha256 : (bytes : List ℕ) → length bytes ≡ 32 → IsBytes bytes → id_from_hex (encode_lower bytes) ≡ Ok (Sha256 bytes)
read_sha256 bytes len range =
    let digits : length (encode_lower bytes) ≡ 64 = omega (arith, length-encode_with lower_digits bytes, len) in
    rw (decode_of-encode_lower bytes range, digits) refl

-- the digits of an id read back as it
pub id_from_hex-hex_of : (id : ObjectId) → length (bytes_of id) ≡ len_in_bytes (kind_of id) → IsBytes (bytes_of id) → id_from_hex (hex_of id) ≡ Ok id
id_from_hex-hex_of (Sha1 bytes) len range = read_sha1 bytes len range
id_from_hex-hex_of (Sha256 bytes) len range = read_sha256 bytes len range
