-- What a part of the ordered list of rules finds in a name, for the private functions that ask them one by one.
use Rattle.std.specs.Prelude.{ℕ, List, Option, MatchOption, Result}
use Rattle.gx_rules.specs.declared.name_error.NameError.{NameError}
use Rattle.gx_rules.specs.Name.{Breaks, rank, Nowhere, IsFirstPlace}
use Rattle.gx_rules.specs.Rules.{JudgesBy}

-- the first place that has the property, if there is one
abbrev pub FindsFirst : (ℕ → Type 0) → Option ℕ → Type 0
FindsFirst P found = MatchOption found (Nowhere P) (IsFirstPlace P)

-- the name keeps the rules of these ranks, or the error names the first that it breaks
abbrev pub Judges : ℕ → ℕ → List ℕ → Result (Unit {0}) NameError → Type 0
Judges low high name result = JudgesBy (Breaks name) rank low high result
