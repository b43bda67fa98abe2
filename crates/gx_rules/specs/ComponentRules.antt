-- What a part of the ordered list of rules finds in a component, for the private functions that ask them one by one.
use Rattle.std.specs.Prelude.{◌≡◌, ℕ, Bool, List, [], ◌∷◌, Result}
use Rattle.gx_rules.specs.declared.component_error.ComponentError.{ComponentError}
use Rattle.gx_rules.specs.declared.component_rules.Protect.{Protect}
use Rattle.gx_rules.specs.Component.{Violates, rule_rank, without_ignorable}
use Rattle.gx_rules.specs.Rules.{JudgesBy}

-- the file system sees the first byte
abbrev pub SeesFirst : List ℕ → Type 0
SeesFirst [] = Unit {0}
SeesFirst (byte ∷ name) = without_ignorable (byte ∷ name) ≡ byte ∷ without_ignorable name

-- the name keeps the rules of these ranks, or the error names the first that it breaks
abbrev pub JudgesEntry : ℕ → ℕ → List ℕ → Bool → Protect → Result (Unit {0}) ComponentError → Type 0
JudgesEntry low high name is_link protect result = JudgesBy (Violates name is_link protect) rule_rank low high result
