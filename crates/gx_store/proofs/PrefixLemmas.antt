-- What ids share, and the prefixes that they have in common.
use Rattle.std.proofs.Common.{◌≡◌, ◌≢◌, ◌∙◌, sym, ap, refl, subst, ℕ, zero, suc, ◌+◌, ◌*◌, ◌/◌, ◌%◌, ◌<◌, ◌≤◌, Bool, true, false, cond, List, [], ◌∷◌, length, take, slice_index, nat_eq, arith, inl, inr, ◌⊎◌}
use Rattle.std.specs.List.{common_prefix_len, AllByRecursion}
use Rattle.std.proofs.lemmas.Bool.{cases_lt}
use Rattle.std.proofs.lemmas.List.{get_or_past, take_all}
use Rattle.hex.specs.Hex.{encode_with, encode_lower, lower_digits}
use Rattle.gx_hash.specs.HashKind.{kind_of, len_in_bytes}
use Rattle.gx_hash.specs.IdDigits.{IsLowerHexDigit, HasOwnDigits}
use Rattle.gx_hash.specs.ObjectId.{hex_of}
use Rattle.gx_hash.specs.declared.oid.ObjectId.{ObjectId}
use Rattle.gx_hash.specs.declared.oid.ObjectId.TheVariants.{Sha1, Sha256}
use Rattle.gx_store.specs.Content.{Content}
use Rattle.gx_store.specs.Sharing.{IsAnother, shared_digits}
use Rattle.gx_store.proofs.SharedLemmas.{digit, same_digit, eq_same, same_eq}

head_same : (x y : ℕ) (xs ys : List ℕ) → x ∷ xs ≡ y ∷ ys → x ≡ y
head_same x y xs ys e = cc

tail_same : (x y : ℕ) (xs ys : List ℕ) → x ∷ xs ≡ y ∷ ys → xs ≡ ys
tail_same x y xs ys e = cc

not_empty : (x : ℕ) (xs : List ℕ) → x ∷ xs ≡ [] → ⊥
not_empty x xs e = cc

pub prefix_shared : (xs ys : List ℕ) (n : ℕ) → n ≤ length xs → take n xs ≡ take n ys → n ≤ common_prefix_len nat_eq xs ys
prefix_shared xs ys zero p e = omega arith
prefix_shared [] ys (suc n) p e = absurd (omega (arith, p))
prefix_shared (x ∷ xs) [] (suc n) p e = absurd (not_empty x (take n xs) e)
prefix_shared (x ∷ xs) (y ∷ ys) (suc n) p e =
    let rest = prefix_shared xs ys n (omega (arith, p)) (tail_same x y _ _ e) in
    let more : suc n ≤ 1 + common_prefix_len nat_eq xs ys = omega (arith, rest) in
    subst (λ b. suc n ≤ cond b (1 + common_prefix_len nat_eq xs ys) 0) (sym (eq_same x y (head_same x y _ _ e))) more

pub shared_prefix : (xs ys : List ℕ) (n : ℕ) → n ≤ common_prefix_len nat_eq xs ys → take n xs ≡ take n ys
shared_prefix xs ys zero p = refl
shared_prefix [] ys (suc n) p = absurd (omega (arith, p))
shared_prefix (x ∷ xs) [] (suc n) p = absurd (omega (arith, p))
shared_prefix (x ∷ xs) (y ∷ ys) (suc n) p = both (nat_eq x y) refl p (shared_prefix xs ys n)
  where
    both : (b : Bool) → nat_eq x y ≡ b → suc n ≤ cond b (1 + common_prefix_len nat_eq xs ys) 0 → (n ≤ common_prefix_len nat_eq xs ys → take n xs ≡ take n ys) → x ∷ take n xs ≡ y ∷ take n ys
    both true e q rest = let same : x ≡ y = same_eq x y e in let tail = rest (omega (arith, q)) in λ k. same k ∷ tail k
    both false e q rest = absurd (omega (arith, q))

-- ---- texts of digits

small_digit : (n : ℕ) → IsLowerHexDigit (digit n) → n < 16
unfolding digit
small_digit n h = elim (cases_lt n 16) [
  | inl p ↦ p
  | inr p ↦ absurd (none (subst IsLowerHexDigit (get_or_past lower_digits n 0 p) h))
]
  where
    none : IsLowerHexDigit 0 → ⊥
    none (inl p) = omega (arith, p.0)
    none (inr p) = omega (arith, p.0)

same_bytes : (xs ys : List ℕ) → AllByRecursion IsLowerHexDigit (encode_lower xs) → encode_lower xs ≡ encode_lower ys → xs ≡ ys
unfolding encode_with digit
same_bytes [] [] h e = refl
same_bytes [] (y ∷ ys) h e = absurd (not_empty _ _ (sym e))
same_bytes (x ∷ xs) [] h e = absurd (not_empty _ _ e)
same_bytes (x ∷ xs) (y ∷ ys) h e =
    let high : x / 16 ≡ y / 16 = same_digit (x / 16) (y / 16) (small_digit (x / 16) h.0) (head_same _ _ _ _ e) in
    let low : x % 16 ≡ y % 16 = same_digit (x % 16) (y % 16) (small_digit (x % 16) h.1.0) (head_same _ _ _ _ (tail_same _ _ _ _ e)) in
    let same : x ≡ y = omega (arith, high, low) in
    let rest = same_bytes xs ys h.1.1 (tail_same _ _ _ _ (tail_same _ _ _ _ e)) in
    λ k. same k ∷ rest k

same_ids : (a b : ObjectId) → kind_of a ≡ kind_of b → HasOwnDigits a → hex_of a ≡ hex_of b → a ≡ b
same_ids (Sha1 a) (Sha1 b) k h e = ap Sha1 (same_bytes a b h.digits e)
same_ids (Sha256 a) (Sha256 b) k h e = ap Sha256 (same_bytes a b h.digits e)
same_ids (Sha1 a) (Sha256 b) k h e = cc
same_ids (Sha256 a) (Sha1 b) k h e = cc

pub shares_less : (content : Content) (id other : ObjectId) → HasOwnDigits id → IsAnother content id other → shared_digits id other < length (hex_of id)
shares_less content id other own p =
    let size : length (hex_of other) ≡ length (hex_of id) = p.digits.size ∙ ap (λ k. 2 * len_in_bytes k) p.kind ∙ sym own.size in
    elim (cases_lt (shared_digits id other) (length (hex_of id))) [
      | inl lt ↦ lt
      | inr le ↦ absurd (p.apart (same_ids other id p.kind p.digits (
          sym (take_all (length (hex_of id)) (hex_of other) (omega (arith, size)))
          ∙ sym (shared_prefix (hex_of id) (hex_of other) (length (hex_of id)) le)
          ∙ take_all (length (hex_of id)) (hex_of id) (omega arith))))
    ]
