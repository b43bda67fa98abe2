-- Rules that are asked in an order, one error a rule: what names and components are judged by.
use Rattle.std.specs.Prelude.{ℕ, ◌<◌, ◌≤◌, Result, MatchResult}

-- the error names the first rule that is broken
pub record IsFirst {E : Type 0} (Breaks : E → Type 0) (rank : E → ℕ) (error : E) : Type 0 where
  pub broken : Breaks error
  pub earlier : (other : E) → rank other < rank error → ¬ Breaks other

-- no rule is broken from the one of rank `low` up to that of rank `high`
abbrev pub Keeps : {E : Type 0} → (E → Type 0) → (E → ℕ) → ℕ → ℕ → Type 0
Keeps {E = E} Breaks rank low high = (error : E) → low ≤ rank error → rank error < high → ¬ Breaks error

-- the error names the first of these rules that is broken
pub record BreaksFirst {E : Type 0} (Breaks : E → Type 0) (rank : E → ℕ) (low high : ℕ) (error : E) : Type 0 where
  pub from : low ≤ rank error
  pub to : rank error < high
  pub broken : Breaks error
  pub earlier : Keeps Breaks rank low (rank error)

-- these rules are kept, or the error names the first that is broken
abbrev pub JudgesBy : {E : Type 0} → (E → Type 0) → (E → ℕ) → ℕ → ℕ → Result (Unit {0}) E → Type 0
JudgesBy Breaks rank low high result =
    MatchResult result (λ _. Keeps Breaks rank low high) (BreaksFirst Breaks rank low high)
