-- Partial names, and that at most one error names the first rule that a name breaks.
use Rattle.std.proofs.Common.{◌≡◌, ◌≢◌, ◌<◌, ℕ, List, ap, arith, refl, inl, inr}
use Rattle.std.proofs.lemmas.Bool.{cases_order}
use Rattle.gx_rules.specs.declared.name_error.NameError.{NameError}
use Rattle.gx_rules.specs.declared.name_error.NameError.TheVariants.{Empty, InvalidByte, RepeatedDot, ReflogPortion, StartsWithSlash, EndsWithSlash, RepeatedSlash, StartsWithDot, LockFileSuffix, EndsWithDot, SingleAt, SomeLowercase, NoMemory}
use Rattle.gx_rules.specs.Name.{Breaks, rank, IsFirstPlace, IsFirstBroken, IsFullName, IsPartialName}
use Rattle.gx_rules.specs.Rules.{Keeps, BreaksFirst}
use Rattle.gx_rules.proofs.RuleLemmas.{one_first}

-- a property has one first place
same_place : (P : ℕ → Type 0) (a b : ℕ) → IsFirstPlace P a → IsFirstPlace P b → a ≡ b
same_place P a b first second =
    elim (cases_order a b) [
      | inl same ↦ same
      | inr apart ↦ elim apart [
        | inl below ↦ absurd (second.before a below first.here)
        | inr above ↦ absurd (first.before b above second.here)
      ]
    ]

-- errors of one rule that a name breaks are one
same_of_rank : (name : List ℕ) (a b : NameError) → rank a ≡ rank b → Breaks name a → Breaks name b → a ≡ b
same_of_rank name Empty Empty e p q = refl
same_of_rank name (InvalidByte j) (InvalidByte k) e p q = ap InvalidByte (same_place _ j k p q)
same_of_rank name (RepeatedDot j) (RepeatedDot k) e p q = ap RepeatedDot (same_place _ j k p q)
same_of_rank name (ReflogPortion j) (ReflogPortion k) e p q = ap ReflogPortion (same_place _ j k p q)
same_of_rank name StartsWithSlash StartsWithSlash e p q = refl
same_of_rank name EndsWithSlash EndsWithSlash e p q = refl
same_of_rank name (RepeatedSlash j) (RepeatedSlash k) e p q = ap RepeatedSlash (same_place _ j k p q)
same_of_rank name (StartsWithDot j) (StartsWithDot k) e p q = ap StartsWithDot (same_place _ j k p q)
same_of_rank name (LockFileSuffix j) (LockFileSuffix k) e p q = ap LockFileSuffix (same_place _ j k p q)
same_of_rank name EndsWithDot EndsWithDot e p q = refl
same_of_rank name SingleAt SingleAt e p q = refl
same_of_rank name SomeLowercase SomeLowercase e p q = refl
same_of_rank name NoMemory b e p q = absurd p
same_of_rank name a b e p q = absurd (omega arith)

pub one_first_broken : (name : List ℕ) (a b : NameError) → IsFirstBroken name a → IsFirstBroken name b → a ≡ b
one_first_broken name a b first second = one_first (Breaks name) rank (same_of_rank name) a b first second

-- a name that keeps the rules up to the last is a partial one
pub is_partial_name : (name : List ℕ) → Keeps (Breaks name) rank 0 11 → IsPartialName name
is_partial_name name keeps Empty apart = keeps Empty (omega arith) (omega arith)
is_partial_name name keeps (InvalidByte at) apart = keeps (InvalidByte at) (omega arith) (omega arith)
is_partial_name name keeps (RepeatedDot at) apart = keeps (RepeatedDot at) (omega arith) (omega arith)
is_partial_name name keeps (ReflogPortion at) apart = keeps (ReflogPortion at) (omega arith) (omega arith)
is_partial_name name keeps StartsWithSlash apart = keeps StartsWithSlash (omega arith) (omega arith)
is_partial_name name keeps EndsWithSlash apart = keeps EndsWithSlash (omega arith) (omega arith)
is_partial_name name keeps (RepeatedSlash at) apart = keeps (RepeatedSlash at) (omega arith) (omega arith)
is_partial_name name keeps (StartsWithDot at) apart = keeps (StartsWithDot at) (omega arith) (omega arith)
is_partial_name name keeps (LockFileSuffix at) apart = keeps (LockFileSuffix at) (omega arith) (omega arith)
is_partial_name name keeps EndsWithDot apart = keeps EndsWithDot (omega arith) (omega arith)
is_partial_name name keeps SingleAt apart = keeps SingleAt (omega arith) (omega arith)
is_partial_name name keeps SomeLowercase apart = absurd (apart refl)
is_partial_name name keeps NoMemory apart = λ broken. broken

-- a full name is a partial one
pub full_is_partial : (name : List ℕ) → IsFullName name → IsPartialName name
full_is_partial name full error other = full error

-- the first of these rules that a name breaks is the first of all, and not the last
pub is_first_of_partial : (name : List ℕ) (error : NameError) → BreaksFirst (Breaks name) rank 0 11 error → IsFirstBroken name error × (error ≢ SomeLowercase)
is_first_of_partial name error first = (
  record { broken = first.broken; earlier = λ other below. first.earlier other (omega arith) below },
  λ same. let below : rank error < 11 = first.to in let last : rank error ≡ 11 = ap rank same in absurd (omega arith),
)
