-- Texts of lower-case digits are those of ids, and the digits of an id are such a text.
use Rattle.std.proofs.Common.{◌≡◌, ◌∙◌, sym, ap, refl, subst, ℕ, zero, suc, ◌+◌, ◌-◌, ◌*◌, ◌/◌, ◌%◌, ◌<◌, ◌≤◌, List, [], ◌∷◌, length, slice_index, arith, Some, Result, Ok, IsOk, inl, inr}
use Rattle.std.specs.List.{AllByRecursion}
use Rattle.std.proofs.lemmas.Bool.{cases_lt}
use Rattle.std.proofs.lemmas.Bool.Decides.{nat_tests}
use Rattle.hex.specs.Hex.{IsBytes, lower_digits, encode_with, encode_lower, hex_digit_value, decode_pairs}
use Rattle.hex.proofs.HexLemmas.{length-encode_with}
use Rattle.gx_hash.specs.HashKind.{kind_of, len_in_bytes, IsOfKind}
use Rattle.gx_hash.specs.ObjectId.{object_id, bytes_of, hex_of, id_from_hex}
use Rattle.gx_hash.specs.declared.oid.ObjectId.{ObjectId}
use Rattle.gx_hash.specs.declared.oid.ObjectId.TheVariants.{Sha1, Sha256}
use Rattle.gx_hash.specs.declared.oid.HexError.{HexError}
use Rattle.gx_hash.specs.declared.kind.HashKind.{HashKind}
use Rattle.gx_hash.specs.declared.kind.HashKind.TheVariants as hash_kind
use Rattle.gx_hash.specs.IdDigits.{IsLowerHexDigit, IsHexId, IdOfDigits}
use Rattle.gx_hash.specs.Laws.Digests.{object_id_size, object_id_range, object_id_kind}

decimal_digit : (n : ℕ) → n < 10 → slice_index lower_digits n ≡ 48 + n
decimal_digit zero p = refl
decimal_digit (suc zero) p = refl
decimal_digit (suc (suc zero)) p = refl
decimal_digit (suc (suc (suc zero))) p = refl
decimal_digit (suc (suc (suc (suc zero)))) p = refl
decimal_digit (suc (suc (suc (suc (suc zero))))) p = refl
decimal_digit (suc (suc (suc (suc (suc (suc zero)))))) p = refl
decimal_digit (suc (suc (suc (suc (suc (suc (suc zero))))))) p = refl
decimal_digit (suc (suc (suc (suc (suc (suc (suc (suc zero)))))))) p = refl
decimal_digit (suc (suc (suc (suc (suc (suc (suc (suc (suc zero))))))))) p = refl
decimal_digit (suc (suc (suc (suc (suc (suc (suc (suc (suc (suc n)))))))))) p = absurd (omega arith)

letter_digit : (n : ℕ) → n < 6 → slice_index lower_digits (10 + n) ≡ 97 + n
letter_digit zero p = refl
letter_digit (suc zero) p = refl
letter_digit (suc (suc zero)) p = refl
letter_digit (suc (suc (suc zero))) p = refl
letter_digit (suc (suc (suc (suc zero)))) p = refl
letter_digit (suc (suc (suc (suc (suc zero))))) p = refl
letter_digit (suc (suc (suc (suc (suc (suc n)))))) p = absurd (omega arith)

-- what a digit is worth
record Digit (c : ℕ) : Type 0 where
  value : ℕ
  small : value < 16
  reads : hex_digit_value c ≡ Some value
  writes : slice_index lower_digits value ≡ c

reads_decimal : (c : ℕ) → 48 ≤ c → c ≤ 57 → hex_digit_value c ≡ Some (c - 48)
reads_decimal c p q = grind (arith, nat_tests)

reads_letter : (c : ℕ) → 97 ≤ c → c ≤ 102 → hex_digit_value c ≡ Some (c - 87)
reads_letter c p q = grind (arith, nat_tests)

digit : (c : ℕ) → IsLowerHexDigit c → Digit c
digit c (inl p) = record { value = c - 48; small = omega (arith, p.0, p.1); reads = reads_decimal c p.0 p.1; writes = decimal_digit (c - 48) (omega (arith, p.0, p.1)) ∙ omega (arith, p.0) }
digit c (inr p) = record {
  value = c - 87;
  small = omega (arith, p.0, p.1);
  reads = reads_letter c p.0 p.1;
  writes = ap (slice_index lower_digits) (omega (arith, p.0)) ∙ letter_digit (c - 97) (omega (arith, p.0, p.1)) ∙ omega (arith, p.0);
}

record Decoded (i n : ℕ) (text : List ℕ) : Type 0 where
  bytes : List ℕ
  reads : decode_pairs i text ≡ Ok bytes
  writes : encode_lower bytes ≡ text

decoded : (n i : ℕ) (text : List ℕ) → AllByRecursion IsLowerHexDigit text → length text ≡ 2 * n → Decoded i n text
unfolding decode_pairs encode_with
decoded n i [] p e = record { bytes = []; reads = refl; writes = refl }
decoded n i (a ∷ []) p e = absurd (omega (arith, e))
decoded zero i (a ∷ b ∷ rest) p e = absurd (omega (arith, e))
decoded (suc n) i (a ∷ b ∷ rest) p e =
    let high = digit a p.0 in
    let low = digit b p.1.0 in
    let r = decoded n (i + 2) rest p.1.1 (omega (arith, e)) in
    let byte = high.value * 16 + low.value in
    let top : byte / 16 ≡ high.value = omega (arith, low.small) in
    let bottom : byte % 16 ≡ low.value = omega (arith, low.small) in
    record {
      bytes = byte ∷ r.bytes;
      reads = rw (high.reads, low.reads, r.reads) refl;
      writes = rw (top, bottom, high.writes, low.writes, r.writes) refl;
    }

short : (text bytes : List ℕ) → length text ≡ 40 → decode_pairs 0 text ≡ Ok bytes → id_from_hex text ≡ Ok (Sha1 bytes)
short text bytes size reads = rw (size, reads) refl

long : (text bytes : List ℕ) → length text ≡ 64 → decode_pairs 0 text ≡ Ok bytes → id_from_hex text ≡ Ok (Sha256 bytes)
long text bytes size reads = rw (size, reads) refl

pub named : (hash : HashKind) (text : List ℕ) → IsHexId hash text → IdOfDigits hash text
named hash_kind.Sha1 text p =
    let r = decoded 20 0 text p.digits (omega (arith, p.size)) in
    record { id = Sha1 r.bytes; reads = short text r.bytes p.size r.reads; writes = r.writes; kind = refl }
named hash_kind.Sha256 text p =
    let r = decoded 32 0 text p.digits (omega (arith, p.size)) in
    record { id = Sha256 r.bytes; reads = long text r.bytes p.size r.reads; writes = r.writes; kind = refl }

pub named_is_read : (hash : HashKind) (text : List ℕ) (r : Result ObjectId HexError) → IsHexId hash text → r ≡ id_from_hex text → IsOk r
named_is_read hash text r p e = subst IsOk (sym (e ∙ (named hash text p).reads)) refl

pub named_is : (hash : HashKind) (text : List ℕ) (r : Result ObjectId HexError) (id : ObjectId) → IsHexId hash text → r ≡ id_from_hex text → r ≡ Ok id → (hex_of id ≡ text) × IsOfKind hash id
named_is hash text r id p e f =
    let n = named hash text p in
    let k : Ok n.id ≡ Ok id = sym n.reads ∙ sym e ∙ f in
    let same : n.id ≡ id = cc in
    (ap hex_of (sym same) ∙ n.writes, subst (IsOfKind hash) same n.kind)

-- ---- the digits of an id

digit_at : (n : ℕ) → n < 16 → IsLowerHexDigit (slice_index lower_digits n)
digit_at n p = elim (cases_lt n 10) [
  | inl h ↦ subst IsLowerHexDigit (sym (decimal_digit n h)) (inl (omega arith, omega (arith, h)))
  | inr h ↦
      let m : ℕ = n - 10 in
      let is : 10 + m ≡ n = omega (arith, h) in
      subst (λ k. IsLowerHexDigit (slice_index lower_digits k)) is (subst IsLowerHexDigit (sym (letter_digit m (omega (arith, p, h)))) (inr (omega arith, omega (arith, p, h))))
]

digits_of : (bytes : List ℕ) → IsBytes bytes → AllByRecursion IsLowerHexDigit (encode_lower bytes)
unfolding encode_with
digits_of [] range = tt
digits_of (b ∷ bs) range =
    let small : b < 256 = range 0 in
    (digit_at (b / 16) (omega (arith, small)), (digit_at (b % 16) (omega arith), digits_of bs (λ i. range (suc i))))

pub id_digits : (id : ObjectId) → length (bytes_of id) ≡ len_in_bytes (kind_of id) → IsBytes (bytes_of id) → IsHexId (kind_of id) (hex_of id)
id_digits id len range = record {
  size = omega (arith, length-encode_with lower_digits (bytes_of id), len);
  digits = digits_of (bytes_of id) range;
}

pub computed_digits : (hash : HashKind) (kind_name bytes : List ℕ) → IsHexId hash (hex_of (object_id hash kind_name bytes))
computed_digits hash kind_name bytes =
    let kind = object_id_kind hash kind_name bytes in
    let size = object_id_size hash kind_name bytes ∙ ap len_in_bytes (sym kind) in
    subst (λ k. IsHexId k (hex_of (object_id hash kind_name bytes))) kind (id_digits (object_id hash kind_name bytes) size (object_id_range hash kind_name bytes))
