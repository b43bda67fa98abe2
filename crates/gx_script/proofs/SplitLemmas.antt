-- What stands after a prefix or a first byte.
use Rattle.std.proofs.Common.{◌≡◌, ◌≢◌, ◌∙◌, sym, ap, ℕ, ◌+◌, ◌<◌, List, ◌∷◌, ◌++◌, length, take, drop, get_or, arith, [], refl, subst, eq-eqb, take-append-drop, Some, None}
use Rattle.std.proofs.lemmas.Bool.{eqb-true}
use Rattle.std.proofs.lemmas.List.{append-nil, drop_more, get_or_default, get_or-take, length-take}
use Rattle.std.proofs.lemmas.List.Elements.{recursion_from_All}
use Rattle.memchr.specs.Find.{IsFirstByte, is_byte}
use Rattle.gx_script.specs.Items.{Without}
use Rattle.gx_script.specs.Lines.{Splits, CutsField, IsTail}

-- Where a byte is first.
pub without_at : (byte : ℕ) (bytes : List ℕ) → IsFirstByte (is_byte byte) bytes None → Without byte bytes
without_at byte bytes none = recursion_from_All (λ b. b ≢ byte) bytes (λ k d in' is. none k (omega arith) in' (eq-eqb (get_or bytes k 0) byte (get_or_default bytes k 0 d in' ∙ is)))

split_at : (xs : List ℕ) (k : ℕ) → k < length xs → xs ≡ take k xs ++ get_or xs k 0 ∷ drop (k + 1) xs
split_at xs k lt = sym (ap (λ l. take k xs ++ l) (sym (drop_more xs k 0 lt)) ∙ take-append-drop k xs)

pub splits_at : (byte : ℕ) (bytes : List ℕ) (k : ℕ) → IsFirstByte (is_byte byte) bytes (Some k) → Splits byte bytes (take k bytes) (drop (k + 1) bytes)
splits_at byte bytes k found = record {
  is = split_at bytes k found.0.high ∙ ap (λ b. take k bytes ++ b ∷ drop (k + 1) bytes) (eqb-true (get_or bytes k 0) byte found.1);
  first = recursion_from_All (λ b. b ≢ byte) (take k bytes) (λ j d in' is.
      let below : j < k = omega (arith, length-take k bytes) in
      let within : j < length bytes = omega (arith, found.0.high) in
      found.0.before j (omega arith) below (eq-eqb (get_or bytes j 0) byte (get_or_default bytes j 0 d within ∙ sym (get_or-take k bytes j d below) ∙ is)));
}

pub cuts_at : (bytes rest : List ℕ) (k : ℕ) → bytes ≡ 32 ∷ rest → IsFirstByte (is_byte 32) rest (Some k) → CutsField bytes (take k rest) (drop k rest)
cuts_at bytes rest k is found =
    let s = splits_at 32 rest k found in
    let behind : drop k rest ≡ 32 ∷ drop (k + 1) rest = drop_more rest k 0 found.0.high ∙ ap (λ (b : ℕ). b ∷ drop (k + 1) rest) (eqb-true (get_or rest k 0) 32 found.1) in
    record { is = is ∙ ap (λ (l : List ℕ). 32 ∷ l) (sym (take-append-drop k rest)); whole = s.first; tail = subst IsTail (sym behind) refl }

pub cuts_all : (bytes rest : List ℕ) → bytes ≡ 32 ∷ rest → IsFirstByte (is_byte 32) rest None → CutsField bytes rest []
cuts_all bytes rest is none = record { is = is ∙ ap (λ (l : List ℕ). 32 ∷ l) (sym (append-nil rest)); whole = without_at 32 rest none; tail = tt }
