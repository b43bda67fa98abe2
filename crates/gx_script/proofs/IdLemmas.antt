-- Lower-case digits are those of an id.
use Rattle.std.proofs.Common.{◌≡◌, ◌∙◌, sym, ap, refl, subst, ℕ, zero, suc, ◌+◌, ◌-◌, ◌*◌, ◌/◌, ◌%◌, ◌<◌, ◌≤◌, List, [], ◌∷◌, length, slice_index, arith, Some, Ok, Err, Result, ◌⊎◌, inl, inr}
use Rattle.std.specs.List.{AllByRecursion}
use Rattle.std.proofs.lemmas.Bool.Decides.{nat_tests}
use Rattle.hex.specs.Hex.{IsBytes, lower_digits, encode_with, encode_lower, hex_digit_value, decode_pairs}
use Rattle.hex.proofs.HexLemmas.{length-encode_with}
use Rattle.gx_hash.specs.HashKind.{len_in_bytes}
use Rattle.gx_hash.specs.ObjectId.{bytes_of, hex_of, id_from_hex}
use Rattle.gx_hash.specs.declared.oid.ObjectId.{ObjectId}
use Rattle.gx_hash.specs.declared.oid.ObjectId.TheVariants.{Sha1, Sha256}
use Rattle.gx_hash.specs.declared.oid.HexError.{HexError}
use Rattle.gx_hash.specs.declared.kind.HashKind.{HashKind}
use Rattle.gx_hash.specs.declared.kind.HashKind.TheVariants as hash_kind
use Rattle.gx_hash.specs.Laws.{id_from_hex-hex_of}
use Rattle.gx_hash.specs.IdDigits.{IsHexId, IsLowerHexDigit}
use Rattle.gx_script.specs.Fields.{IsId}
use Rattle.gx_script.specs.Items.{Without, NoNewline}
use Rattle.gx_script.specs.Lines.{IsNoId}

decimal_digit : (n : ℕ) → n < 10 → slice_index lower_digits n ≡ 48 + n
decimal_digit zero p = refl
decimal_digit (suc zero) p = refl
decimal_digit (suc (suc zero)) p = refl
decimal_digit (suc (suc (suc zero))) p = refl
decimal_digit (suc (suc (suc (suc zero)))) p = refl
decimal_digit (suc (suc (suc (suc (suc zero))))) p = refl
decimal_digit (suc (suc (suc (suc (suc (suc zero)))))) p = refl
decimal_digit (suc (suc (suc (suc (suc (suc (suc zero))))))) p = refl
decimal_digit (suc (suc (suc (suc (suc (suc (suc (suc zero)))))))) p = refl
decimal_digit (suc (suc (suc (suc (suc (suc (suc (suc (suc zero))))))))) p = refl
decimal_digit (suc (suc (suc (suc (suc (suc (suc (suc (suc (suc n)))))))))) p = absurd (omega arith)

letter_digit : (n : ℕ) → n < 6 → slice_index lower_digits (10 + n) ≡ 97 + n
letter_digit zero p = refl
letter_digit (suc zero) p = refl
letter_digit (suc (suc zero)) p = refl
letter_digit (suc (suc (suc zero))) p = refl
letter_digit (suc (suc (suc (suc zero)))) p = refl
letter_digit (suc (suc (suc (suc (suc zero))))) p = refl
letter_digit (suc (suc (suc (suc (suc (suc n)))))) p = absurd (omega arith)

-- what a digit is worth
record Digit (c : ℕ) : Type 0 where
  value : ℕ
  small : value < 16
  reads : hex_digit_value c ≡ Some value
  writes : slice_index lower_digits value ≡ c

reads_decimal : (c : ℕ) → 48 ≤ c → c ≤ 57 → hex_digit_value c ≡ Some (c - 48)
reads_decimal c p q = grind (arith, nat_tests)

reads_letter : (c : ℕ) → 97 ≤ c → c ≤ 102 → hex_digit_value c ≡ Some (c - 87)
reads_letter c p q = grind (arith, nat_tests)

digit : (c : ℕ) → IsLowerHexDigit c → Digit c
digit c (inl p) = record { value = c - 48; small = omega (arith, p.0, p.1); reads = reads_decimal c p.0 p.1; writes = decimal_digit (c - 48) (omega (arith, p.0, p.1)) ∙ omega (arith, p.0) }
digit c (inr p) = record {
  value = c - 87;
  small = omega (arith, p.0, p.1);
  reads = reads_letter c p.0 p.1;
  writes = ap (slice_index lower_digits) (omega (arith, p.0)) ∙ letter_digit (c - 97) (omega (arith, p.0, p.1)) ∙ omega (arith, p.0);
}

record Decoded (i n : ℕ) (text : List ℕ) : Type 0 where
  bytes : List ℕ
  reads : decode_pairs i text ≡ Ok bytes
  writes : encode_lower bytes ≡ text
  size : length bytes ≡ n
  range : IsBytes bytes

byte_range : (b : ℕ) (rest : List ℕ) → b < 256 → IsBytes rest → IsBytes (b ∷ rest)
byte_range b rest p q zero = p
byte_range b rest p q (suc i) = q i

no_range : IsBytes []
no_range zero = omega arith
no_range (suc i) = omega arith

decoded : (n i : ℕ) (text : List ℕ) → AllByRecursion IsLowerHexDigit text → length text ≡ 2 * n → Decoded i n text
unfolding decode_pairs encode_with
decoded n i [] p e = record { bytes = []; reads = refl; writes = refl; size = omega (arith, e); range = no_range }
decoded n i (a ∷ []) p e = absurd (omega (arith, e))
decoded zero i (a ∷ b ∷ rest) p e = absurd (omega (arith, e))
decoded (suc n) i (a ∷ b ∷ rest) p e =
    let high = digit a p.0 in
    let low = digit b p.1.0 in
    let r = decoded n (i + 2) rest p.1.1 (omega (arith, e)) in
    let byte = high.value * 16 + low.value in
    let top : byte / 16 ≡ high.value = omega (arith, low.small) in
    let bottom : byte % 16 ≡ low.value = omega (arith, low.small) in
    record {
      bytes = byte ∷ r.bytes;
      reads = rw (high.reads, low.reads, r.reads) refl;
      writes = rw (top, bottom, high.writes, low.writes, r.writes) refl;
      size = omega (arith, r.size);
      range = byte_range byte r.bytes (omega (arith, high.small, low.small)) r.range;
    }

-- an id with these digits
pub record Named (hash : HashKind) (text : List ℕ) : Type 0 where
  pub id : ObjectId
  pub reads : id_from_hex text ≡ Ok id
  pub writes : hex_of id ≡ text
  pub fits : IsId hash id

short : (text bytes : List ℕ) → length text ≡ 40 → decode_pairs 0 text ≡ Ok bytes → id_from_hex text ≡ Ok (Sha1 bytes)
short text bytes size reads = rw (size, reads) refl

long : (text bytes : List ℕ) → length text ≡ 64 → decode_pairs 0 text ≡ Ok bytes → id_from_hex text ≡ Ok (Sha256 bytes)
long text bytes size reads = rw (size, reads) refl

pub named : (hash : HashKind) (text : List ℕ) → IsHexId hash text → Named hash text
named hash_kind.Sha1 text p =
    let r = decoded 20 0 text p.digits (omega (arith, p.size)) in
    record { id = Sha1 r.bytes; reads = short text r.bytes p.size r.reads; writes = r.writes; fits = record { kind = refl; size = r.size; bytes = r.range } }
named hash_kind.Sha256 text p =
    let r = decoded 32 0 text p.digits (omega (arith, p.size)) in
    record { id = Sha256 r.bytes; reads = long text r.bytes p.size r.reads; writes = r.writes; fits = record { kind = refl; size = r.size; bytes = r.range } }

pub named_is : (hash : HashKind) (text : List ℕ) (r : Result ObjectId HexError) (id : ObjectId) → IsHexId hash text → r ≡ id_from_hex text → r ≡ Ok id → IsId hash id × (text ≡ hex_of id)
named_is hash text r id p e f =
    let n = named hash text p in
    let k : Ok n.id ≡ Ok id = sym n.reads ∙ sym e ∙ f in
    let same : n.id ≡ id = cc in
    (subst (IsId hash) same n.fits, sym n.writes ∙ ap hex_of same)

pub named_ok : (hash : HashKind) (text : List ℕ) (r : Result ObjectId HexError) (e : HexError) → IsHexId hash text → r ≡ id_from_hex text → r ≡ Err e → ⊥
named_ok hash text r e p is f =
    let n = named hash text p in
    let k : Ok n.id ≡ Err e = sym n.reads ∙ sym is ∙ f in cc

less_or : (a b : ℕ) → (a < b) ⊎ (b ≤ a)
less_or a zero = inr (omega arith)
less_or zero (suc b) = inl (omega arith)
less_or (suc a) (suc b) = elim (less_or a b) [ inl p ↦ inl (omega (arith, p)) | inr p ↦ inr (omega (arith, p)) ]

lower : (n : ℕ) → n < 16 → IsLowerHexDigit (slice_index lower_digits n)
lower n lt = elim (less_or n 10) [
  | inl few ↦ subst IsLowerHexDigit (sym (decimal_digit n few)) (inl (omega (arith, few), omega (arith, few)))
  | inr many ↦ subst IsLowerHexDigit (sym (ap (slice_index lower_digits) (omega (arith, many)) ∙ letter_digit (n - 10) (omega (arith, lt, many)))) (inr (omega (arith, lt, many), omega (arith, lt, many)))
]

digits_lower : (bytes : List ℕ) → IsBytes bytes → AllByRecursion IsLowerHexDigit (encode_lower bytes)
unfolding encode_with
digits_lower [] range = tt
digits_lower (b ∷ rest) range =
    let small : b < 256 = range 0 in
    (lower (b / 16) (omega (arith, small)), (lower (b % 16) (omega arith), digits_lower rest (λ i. range (suc i))))

pub is_hex : (hash : HashKind) (id : ObjectId) → IsId hash id → IsHexId hash (hex_of id)
is_hex hash id h = record { size = length-encode_with lower_digits (bytes_of id) ∙ ap (λ (n : ℕ). 2 * n) h.size; digits = digits_lower (bytes_of id) h.bytes }

pub no_id : (hash : HashKind) (text : List ℕ) → (IsHexId hash text → ⊥) → IsNoId hash text
no_id hash text none id fits e = none (subst (IsHexId hash) (sym e) (is_hex hash id fits))

pub same_id : (hash : HashKind) (a b : ObjectId) → IsId hash a → IsId hash b → hex_of a ≡ hex_of b → a ≡ b
same_id hash a b p q e =
    let x : Ok a ≡ id_from_hex (hex_of a) = sym (id_from_hex-hex_of a (p.size ∙ ap len_in_bytes (sym p.kind)) p.bytes) in
    let y : id_from_hex (hex_of b) ≡ Ok b = id_from_hex-hex_of b (q.size ∙ ap len_in_bytes (sym q.kind)) q.bytes in
    let k : Ok a ≡ Ok b = x ∙ ap id_from_hex e ∙ y in cc

digits_without : (c : ℕ) (text : List ℕ) → c < 48 → AllByRecursion IsLowerHexDigit text → Without c text
digits_without c [] lt p = tt
digits_without c (d ∷ rest) lt p = ((λ e. elim p.0 [ inl r ↦ absurd (omega (arith, r.0, e)) | inr r ↦ absurd (omega (arith, r.0, e)) ]), digits_without c rest lt p.1)

pub hex_space : (hash : HashKind) (id : ObjectId) → IsId hash id → Without 32 (hex_of id)
hex_space hash id h = digits_without 32 (hex_of id) (omega arith) (is_hex hash id h).digits

pub hex_open : (hash : HashKind) (id : ObjectId) → IsId hash id → NoNewline (hex_of id)
hex_open hash id h = digits_without 10 (hex_of id) (omega arith) (is_hex hash id h).digits

-- The digits begin with no other byte than a digit.
pub hex_first : (hash : HashKind) (id : ObjectId) (c : ℕ) (rest : List ℕ) → IsId hash id → hex_of id ≡ c ∷ rest → IsLowerHexDigit c
hex_first hash id c rest h e = let all : AllByRecursion IsLowerHexDigit (c ∷ rest) = subst (AllByRecursion IsLowerHexDigit) e (is_hex hash id h).digits in all.0
