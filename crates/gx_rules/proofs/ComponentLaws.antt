-- At most one error names the first rule that a name of an entry breaks.
use Rattle.std.proofs.Common.{◌≡◌, ℕ, List, Bool, arith, refl}
use Rattle.gx_rules.specs.declared.component_error.ComponentError.{ComponentError}
use Rattle.gx_rules.specs.declared.component_error.ComponentError.TheVariants.{Empty, PathSeparator, Relative, DotGitDir, SymlinkedGitModules, WindowsIllegal, WindowsReserved}
use Rattle.gx_rules.specs.declared.component_rules.Protect.{Protect}
use Rattle.gx_rules.specs.Component.{Violates, rule_rank, IsFirstViolated}
use Rattle.gx_rules.proofs.RuleLemmas.{one_first}

-- each rule has its own rank
same_rule : (a b : ComponentError) → rule_rank a ≡ rule_rank b → a ≡ b
same_rule Empty Empty e = refl
same_rule PathSeparator PathSeparator e = refl
same_rule Relative Relative e = refl
same_rule DotGitDir DotGitDir e = refl
same_rule SymlinkedGitModules SymlinkedGitModules e = refl
same_rule WindowsIllegal WindowsIllegal e = refl
same_rule WindowsReserved WindowsReserved e = refl
same_rule a b e = absurd (omega arith)

pub one_first_violated : (name : List ℕ) (is_link : Bool) (protect : Protect) (a b : ComponentError) → IsFirstViolated name is_link protect a → IsFirstViolated name is_link protect b → a ≡ b
one_first_violated name is_link protect a b first second =
    one_first (Violates name is_link protect) rule_rank (λ x y e p q. same_rule x y e) a b first second
