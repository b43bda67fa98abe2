-- At most one error names the first rule that is broken.
use Rattle.std.proofs.Common.{◌≡◌, ℕ, inl, inr}
use Rattle.std.proofs.lemmas.Bool.{cases_order}
use Rattle.gx_rules.specs.Rules.{IsFirst}

pub one_first : {E : Type 0} (Breaks : E → Type 0) (rank : E → ℕ) → ((a b : E) → rank a ≡ rank b → Breaks a → Breaks b → a ≡ b)
    → (a b : E) → IsFirst Breaks rank a → IsFirst Breaks rank b → a ≡ b
one_first Breaks rank same a b first second =
    elim (cases_order (rank a) (rank b)) [
      | inl level ↦ same a b level first.broken second.broken
      | inr apart ↦ elim apart [
        | inl below ↦ absurd (second.earlier a below first.broken)
        | inr above ↦ absurd (first.earlier b above second.broken)
      ]
    ]
