-- The digits of the bytes that a prefix keeps.
use Rattle.std.proofs.Common.{◌≡◌, ℕ, ◌+◌, ◌-◌, ◌*◌, ◌/◌, ◌%◌, ◌<◌, ◌≤◌, zero, suc, List, [], ◌∷◌, ◌++◌, length, take, drop, replicate, ap, refl, sym, ◌∙◌, arith}
use Rattle.std.specs.Prelude.{slice_set, slice_index, slice_index_or}
use Rattle.std.proofs.Math.Seq.{set-append_seam, take-append_seam, take-append-add, split_at}
use Rattle.std.proofs.lemmas.List.{drop-replicate, length-append, length-take-le, length-drop, take-append-drop, append_assoc, take-replicate, length-replicate}
use Rattle.std.specs.Prelude.{◌↔◌}
use Rattle.std.specs.declared.cmp.Ordering.{Ordering}
use Rattle.std.specs.declared.cmp.Ordering.TheVariants.{Less, Equal, Greater}
use Rattle.std.specs.Ordering.{nat_cmp, ordering_reverse}
use Rattle.std.specs.Cmp.Lexicographic.{slice_cmp, nat_list_cmp_total}
use Rattle.std.specs.FinMap.{slice_cmp-IsAntisymmetric, nat_cmp-IsAntisymmetric}
use Rattle.hex.specs.Hex.{encode_with, encode_lower, lower_digits}
use Rattle.hex.proofs.HexLemmas.{length-encode_with}
use Rattle.gx_hash.specs.declared.oid.ObjectId.{ObjectId}
use Rattle.gx_hash.specs.ObjectId.{hex_of}
use Rattle.gx_hash.specs.PrefixDigits.{padded, IsCut}

encode-append : (t xs ys : List ℕ) → encode_with t (xs ++ ys) ≡ encode_with t xs ++ encode_with t ys
unfolding encode_with
encode-append t [] ys = refl
encode-append t (x ∷ xs) ys = ap (λ rest. slice_index t (x / 16) ∷ slice_index t (x % 16) ∷ rest) (encode-append t xs ys)

encode-zeros : (n : ℕ) → encode_lower (replicate n 0) ≡ replicate (2 * n) 48
unfolding encode_with
encode-zeros zero = refl
encode-zeros (suc n) =
    let twice : 2 * suc n ≡ suc (suc (2 * n)) = omega arith in
    rw (twice, encode-zeros n) refl

-- whole bytes, with zero bytes after them
even_parts : (a c : List ℕ) → encode_lower (a ++ replicate (length c) 0) ≡ padded (2 * length (a ++ c)) (take (2 * length a) (encode_lower (a ++ c)))
unfolding encode_with
even_parts a c =
    let digits : take (2 * length a) (encode_lower (a ++ c)) ≡ encode_lower a =
    ap (take (2 * length a)) (encode-append lower_digits a c)
    ∙ ap (λ n. take n (encode_lower a ++ encode_lower c)) (sym (length-encode_with lower_digits a))
    ∙ take-append_seam (encode_lower a) (encode_lower c) in
    let left : 2 * length (a ++ c) - length (encode_lower a) ≡ 2 * length c = omega (arith, length-append a c, length-encode_with lower_digits a) in
    encode-append lower_digits a (replicate (length c) 0) ∙ ap (λ zeros. encode_lower a ++ zeros) (encode-zeros (length c))
    ∙ sym (rw (digits, left) refl)

-- the first digit of a byte that follows whole bytes, with zeros after it
odd_parts : (a c : List ℕ) (b : ℕ) → encode_lower (a ++ (b / 16 * 16) ∷ replicate (length c) 0) ≡ padded (2 * length (a ++ b ∷ c)) (take (2 * length a + 1) (encode_lower (a ++ b ∷ c)))
unfolding encode_with
odd_parts a c b =
    let digits : take (2 * length a + 1) (encode_lower (a ++ b ∷ c)) ≡ encode_lower a ++ slice_index lower_digits (b / 16) ∷ [] =
    ap (take (2 * length a + 1)) (encode-append lower_digits a (b ∷ c))
    ∙ ap (λ n. take (n + 1) (encode_lower a ++ encode_lower (b ∷ c))) (sym (length-encode_with lower_digits a))
    ∙ take-append-add (encode_lower a) (encode_lower (b ∷ c)) 1 in
    let whole : length (encode_lower a ++ slice_index lower_digits (b / 16) ∷ []) ≡ suc (2 * length a) = length-append (encode_lower a) (slice_index lower_digits (b / 16) ∷ []) ∙ omega (arith, length-encode_with lower_digits a) in
    let left : 2 * length (a ++ b ∷ c) - length (encode_lower a ++ slice_index lower_digits (b / 16) ∷ []) ≡ suc (2 * length c) = omega (arith, length-append a (b ∷ c), whole) in
    let high : b / 16 * 16 / 16 ≡ b / 16 = omega arith in
    let low : b / 16 * 16 % 16 ≡ 0 = omega arith in
    encode-append lower_digits a ((b / 16 * 16) ∷ replicate (length c) 0)
    ∙ sym (rw (digits, left, high, low, encode-zeros (length c)) (append_assoc (encode_lower a) (slice_index lower_digits (b / 16) ∷ []) (replicate (suc (2 * length c)) 48)))

even_at : (bytes a c : List ℕ) (h n m : ℕ) → a ++ c ≡ bytes → length c ≡ m → 2 * length a ≡ h → length bytes ≡ n
    → encode_lower (a ++ replicate m 0) ≡ padded (2 * n) (take h (encode_lower bytes))
even_at bytes a c h n m whole behind front len = rw (sym front, sym len, sym behind, sym whole) (even_parts a c)

odd_at : (bytes a c : List ℕ) (b h n m : ℕ) → a ++ b ∷ c ≡ bytes → length c ≡ m → 2 * length a + 1 ≡ h → length bytes ≡ n
    → encode_lower (a ++ (b / 16 * 16) ∷ replicate m 0) ≡ padded (2 * n) (take h (encode_lower bytes))
odd_at bytes a c b h n m whole behind front len = rw (sym front, sym len, sym behind, sym whole) (odd_parts a c b)

-- an even number of digits: that of whole bytes
pub kept_even : (bytes kept : List ℕ) (h n : ℕ) → length bytes ≡ n → h ≤ 2 * n → h % 2 ≡ 0 → kept ≡ take (h / 2) bytes
    → encode_lower (kept ++ drop (h / 2) (replicate n 0)) ≡ padded (2 * n) (take h (encode_lower bytes))
kept_even bytes kept h n len fits even is =
    let front : 2 * length (take (h / 2) bytes) ≡ h = omega (arith, length-take-le (h / 2) bytes (omega (arith, len))) in
    let behind : length (drop (h / 2) bytes) ≡ n - h / 2 = length-drop (h / 2) bytes ∙ ap (λ l. l - h / 2) len in
    rw (is, drop-replicate {X = ℕ} (h / 2) n 0) (even_at bytes (take (h / 2) bytes) (drop (h / 2) bytes) h n (n - h / 2) (take-append-drop (h / 2) bytes) behind front len)

-- an odd number: the last byte keeps its first digit
pub kept_odd : (bytes kept : List ℕ) (h n : ℕ) → length bytes ≡ n → h ≤ 2 * n → h % 2 ≡ 1 → kept ≡ take (h / 2) bytes
    → encode_lower (slice_set (kept ++ drop (h / 2) (replicate n 0)) (h / 2) (slice_index_or bytes (h / 2) 0 / 16 * 16)) ≡ padded (2 * n) (take h (encode_lower bytes))
kept_odd bytes kept h n len fits odd is =
    let k = h / 2 in
    let b = slice_index_or bytes (h / 2) 0 in
    let within : h / 2 < length bytes = omega (arith, len) in
    let taken : length (take (h / 2) bytes) ≡ h / 2 = length-take-le (h / 2) bytes (omega (arith, len)) in
    let front : 2 * length (take (h / 2) bytes) + 1 ≡ h = omega (arith, taken) in
    let one : n - h / 2 ≡ suc (n - suc (h / 2)) = omega (arith, len) in
    let behind : length (drop (suc (h / 2)) bytes) ≡ n - suc (h / 2) = length-drop (suc (h / 2)) bytes ∙ ap (λ l. l - suc (h / 2)) len in
    let set_at : slice_set (take (h / 2) bytes ++ 0 ∷ replicate (n - suc (h / 2)) 0) (h / 2) (b / 16 * 16) ≡ take (h / 2) bytes ++ (b / 16 * 16) ∷ replicate (n - suc (h / 2)) 0 =
    ap (λ at. slice_set (take (h / 2) bytes ++ 0 ∷ replicate (n - suc (h / 2)) 0) at (b / 16 * 16)) (sym taken)
    ∙ set-append_seam (take (h / 2) bytes) 0 (replicate (n - suc (h / 2)) 0) (b / 16 * 16) in
    rw (is, drop-replicate {X = ℕ} (h / 2) n 0, one, set_at) (odd_at bytes (take (h / 2) bytes) (drop (suc (h / 2)) bytes) b h n (n - suc (h / 2)) (sym (split_at bytes (h / 2) 0 within)) behind front len)

-- the same, for bytes of an id
pub kept_id : (kept bytes : List ℕ) (h n : ℕ) → length bytes ≡ n → encode_lower kept ≡ padded (2 * n) (take h (encode_lower bytes))
    → encode_lower kept ≡ padded (length (encode_lower bytes)) (take h (encode_lower bytes))
kept_id kept bytes h n len is =
    is ∙ ap (λ whole. padded whole (take h (encode_lower bytes))) (omega (arith, len, length-encode_with lower_digits bytes))

-- the front of a buffer of zeros into which the digits were copied
pub padded_front : (copied digits : List ℕ) (room : ℕ) → copied ≡ digits → length digits ≤ room → room ≤ 64
    → take room (copied ++ drop (length digits) (replicate 64 48)) ≡ padded room digits
padded_front copied digits room same fits most =
    let sum : room ≡ length digits + (room - length digits) = omega (arith, fits) in
    ap (λ front. take room (front ++ drop (length digits) (replicate 64 48))) same
    ∙ ap (λ n. take n (digits ++ drop (length digits) (replicate 64 48))) sum
    ∙ take-append-add digits (drop (length digits) (replicate 64 48)) (room - length digits)
    ∙ ap (λ zeros. digits ++ take (room - length digits) zeros) (drop-replicate {X = ℕ} (length digits) 64 48)
    ∙ ap (λ zeros. digits ++ zeros) (take-replicate (room - length digits) (64 - length digits) 48 (omega (arith, fits, most)))

own_reverse : (o : Ordering) → o ≡ ordering_reverse o → o ≡ Equal
own_reverse Less e = cc
own_reverse Equal e = refl
own_reverse Greater e = cc

-- lists that compare as equal are one
pub equal_lists : (a b : List ℕ) → (slice_cmp nat_cmp a b ≡ Equal) ↔ (a ≡ b)
equal_lists a b = (slice_cmp-IsAntisymmetric nat_cmp-IsAntisymmetric a b, λ same. rw (same) (own_reverse (slice_cmp nat_cmp b b) (nat_list_cmp_total.antisymm b b)))

-- ---- an id that keeps some digits of another

cut_digits : (whole cut : List ℕ) (n : ℕ) → n ≤ length whole → cut ≡ padded (length whole) (take n whole) → take n cut ≡ take n whole
cut_digits whole cut n fits is =
    ap (take n) is
    ∙ ap (λ k. take k (take n whole ++ replicate (length whole - length (take n whole)) 48)) (sym (length-take-le n whole fits))
    ∙ take-append_seam (take n whole) (replicate (length whole - length (take n whole)) 48)

cut_length : (whole cut : List ℕ) (n : ℕ) → n ≤ length whole → cut ≡ padded (length whole) (take n whole) → length cut ≡ length whole
cut_length whole cut n fits is =
    ap length is ∙ length-append (take n whole) (replicate (length whole - length (take n whole)) 48)
    ∙ omega (arith, fits, length-take-le n whole fits, length-replicate {A = ℕ} (length whole - length (take n whole)) 48)

-- it is the least that begins with these digits
pub cut_is : (id cut : ObjectId) (n len : ℕ) → 4 ≤ n → n ≤ len → length (hex_of id) ≡ len → hex_of cut ≡ padded (length (hex_of id)) (take n (hex_of id)) → IsCut n cut
cut_is id cut n len least most size is =
    let fits : n ≤ length (hex_of id) = omega (arith, most, size) in
    let long : length (hex_of cut) ≡ length (hex_of id) = cut_length (hex_of id) (hex_of cut) n fits is in
    record {
      least = least;
      most = omega (arith, fits, long);
      zeros = is ∙ ap (λ l. padded l (take n (hex_of id))) (sym long) ∙ ap (padded (length (hex_of cut))) (sym (cut_digits (hex_of id) (hex_of cut) n fits is));
    }

-- and begins with the id's
pub cut_begins : (id cut : ObjectId) (n len : ℕ) → n ≤ len → length (hex_of id) ≡ len → hex_of cut ≡ padded (length (hex_of id)) (take n (hex_of id)) → take n (hex_of cut) ≡ take n (hex_of id)
cut_begins id cut n len most size is = cut_digits (hex_of id) (hex_of cut) n (omega (arith, most, size)) is
