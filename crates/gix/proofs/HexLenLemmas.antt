-- Binary digits of numbers.
use Rattle.std.proofs.Common.{◌≡◌, ap, ℕ, suc, ◌+◌, ◌*◌, ◌^◌, ◌<◌, ◌≤◌, arith, inl, inr, pow_mono, pow-suc}
use Rattle.std.proofs.lemmas.Bool.{cases_lt}
use Rattle.gix.specs.HexLen.{HasBits}

pub has_bits : (n k : ℕ) → 2 ^ k ≤ n → n < 2 * 2 ^ k → HasBits n (k + 1)
has_bits n k low high = record {
  enough = (let e : k + 1 ≡ suc k = omega arith in omega (arith, ap (λ (x : ℕ). 2 ^ x) e, pow-suc 2 k, high));
  least = λ fewer p. elim (cases_lt k fewer) [
    | inl q ↦ omega (arith, q)
    | inr q ↦ absurd (let h : 2 ^ fewer ≤ 2 ^ k = pow_mono q in omega (arith, h, low, p))
  ];
}
