-- Digests are bytes, as many as their kind says.
use Rattle.std.proofs.Common.{◌≡◌, ◌==◌, ◌<◌, ◌/◌, ◌^◌, ℕ, zero, suc, List, [], ◌∷◌, ◌++◌, cond, length, Some, None, Ok, refl, ap, sym, ◌∙◌, arith}
use Rattle.std.specs.Int.{bytes_high_first, byte_at, to_be_bytes, w32}
use Rattle.std.specs.Prelude.{slice_index}
use Rattle.std.proofs.Math.Nat.{mod-lt}
use Rattle.hex.specs.Hex.{IsBytes}
use Rattle.sha1.specs.Sha1.{sha1, digest_bytes as sha1_bytes}
use Rattle.sha2.specs.Sha256.{sha256, digest_bytes as sha256_bytes}
use Rattle.gx_hash.specs.declared.kind.HashKind.{HashKind}
use Rattle.gx_hash.specs.declared.kind.HashKind.TheVariants as hash_kind
use Rattle.gx_hash.specs.declared.oid.ObjectId.TheVariants.{Sha1, Sha256}
use Rattle.gx_hash.specs.HashKind.{kind_of, len_in_bytes}
use Rattle.gx_hash.specs.ObjectId.{hashed_bytes, object_id, bytes_of, hex_of, id_from_bytes, id_from_hex}
use Rattle.gx_hash.specs.Laws.IdOrder.{id_from_hex-hex_of}

sha1_length : (m : List ℕ) → length (sha1 m) ≡ 20
unfolding sha1 sha1_bytes
sha1_length m = refl

sha256_length : (m : List ℕ) → length (sha256 m) ≡ 32
unfolding sha256 sha256_bytes
sha256_length m = refl

pub object_id_is_whole : (hash : HashKind) (kind_name bytes : List ℕ) → id_from_bytes hash (bytes_of (object_id hash kind_name bytes)) ≡ Some (object_id hash kind_name bytes)
unfolding object_id
object_id_is_whole hash_kind.Sha1 kind_name bytes = ap (λ n. cond (n == 20) (Some (Sha1 (sha1 (hashed_bytes kind_name bytes)))) None) (sha1_length (hashed_bytes kind_name bytes))
object_id_is_whole hash_kind.Sha256 kind_name bytes = ap (λ n. cond (n == 32) (Some (Sha256 (sha256 (hashed_bytes kind_name bytes)))) None) (sha256_length (hashed_bytes kind_name bytes))

no_range : IsBytes []
no_range zero = omega arith
no_range (suc i) = omega arith

range_cons : (b : ℕ) (rest : List ℕ) → b < 256 → IsBytes rest → IsBytes (b ∷ rest)
range_cons b rest p q zero = p
range_cons b rest p q (suc i) = q i

range_append : (xs ys : List ℕ) → IsBytes xs → IsBytes ys → IsBytes (xs ++ ys)
range_append [] ys p q = q
range_append (x ∷ xs) ys p q = range_cons x (xs ++ ys) (p 0) (range_append xs ys (λ i. p (suc i)) q)

byte_small : (k n : ℕ) → byte_at k n < 256
byte_small zero n = mod-lt n (omega arith)
byte_small (suc k) n = mod-lt (n / 256 ^ suc k) (omega arith)

word_range : (k n : ℕ) → IsBytes (bytes_high_first k n)
word_range zero n = no_range
word_range (suc k) n = range_cons (byte_at k n) (bytes_high_first k n) (byte_small k n) (word_range k n)

sha1_words : (h : List ℕ) (n : ℕ) → IsBytes (sha1_bytes h n)
unfolding sha1_bytes
sha1_words h zero = no_range
sha1_words h (suc n) = range_append (sha1_bytes h n) (to_be_bytes w32 (slice_index h n)) (sha1_words h n) (word_range 4 (slice_index h n))

sha256_words : (h : List ℕ) (n : ℕ) → IsBytes (sha256_bytes h n)
unfolding sha256_bytes
sha256_words h zero = no_range
sha256_words h (suc n) = range_append (sha256_bytes h n) (to_be_bytes w32 (slice_index h n)) (sha256_words h n) (word_range 4 (slice_index h n))

sha1_range : (m : List ℕ) → IsBytes (sha1 m)
unfolding sha1
sha1_range m = sha1_words _ 5

sha256_range : (m : List ℕ) → IsBytes (sha256 m)
unfolding sha256
sha256_range m = sha256_words _ 8

pub object_id_size : (hash : HashKind) (kind_name bytes : List ℕ) → length (bytes_of (object_id hash kind_name bytes)) ≡ len_in_bytes hash
unfolding object_id
object_id_size hash_kind.Sha1 kind_name bytes = sha1_length (hashed_bytes kind_name bytes)
object_id_size hash_kind.Sha256 kind_name bytes = sha256_length (hashed_bytes kind_name bytes)

pub object_id_range : (hash : HashKind) (kind_name bytes : List ℕ) → IsBytes (bytes_of (object_id hash kind_name bytes))
unfolding object_id
object_id_range hash_kind.Sha1 kind_name bytes = sha1_range (hashed_bytes kind_name bytes)
object_id_range hash_kind.Sha256 kind_name bytes = sha256_range (hashed_bytes kind_name bytes)

pub object_id_kind : (hash : HashKind) (kind_name bytes : List ℕ) → kind_of (object_id hash kind_name bytes) ≡ hash
unfolding object_id
object_id_kind hash_kind.Sha1 kind_name bytes = refl
object_id_kind hash_kind.Sha256 kind_name bytes = refl

pub object_id_digits : (hash : HashKind) (kind_name bytes : List ℕ) → id_from_hex (hex_of (object_id hash kind_name bytes)) ≡ Ok (object_id hash kind_name bytes)
object_id_digits hash kind_name bytes =
    id_from_hex-hex_of (object_id hash kind_name bytes)
    (object_id_size hash kind_name bytes ∙ ap len_in_bytes (sym (object_id_kind hash kind_name bytes)))
    (object_id_range hash kind_name bytes)
