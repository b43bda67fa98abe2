-- The rule of reference names, and their order. The rule is that of git-check-ref-format(1), DESCRIPTION.
use Rattle.std.specs.Prelude.{◌≡◌, ◌≢◌, ℕ, ◌+◌, ◌-◌, ◌<◌, ◌||◌, ◌&&◌, false, nat_lt, nat_le, ◌==◌, Bool, IsTrue, List, [], length, drop, codes, slice_get, IsSomeAnd, ◌⊎◌, nat_eq}
use Rattle.std.specs.declared.cmp.Ordering.{Ordering}
use Rattle.std.specs.Ordering.{nat_cmp}
use Rattle.std.specs.Cmp.Lexicographic.{slice_cmp}
use Rattle.std.specs.List.{starts_with, list_any, list_all}
use Rattle.gx_rules.specs.Rules.{IsFirst}
use Rattle.gx_rules.specs.declared.name_error.NameError.{NameError}
use Rattle.gx_rules.specs.declared.name_error.NameError.TheVariants.{Empty, InvalidByte, RepeatedDot, ReflogPortion, StartsWithSlash, EndsWithSlash, RepeatedSlash, StartsWithDot, LockFileSuffix, EndsWithDot, SingleAt, SomeLowercase, NoMemory}

-- Names are ordered by their bytes.
abbrev pub name_cmp : List ℕ → List ℕ → Ordering
name_cmp = slice_cmp nat_cmp

-- Names cannot have control characters (below 32, or 127), space, tilde, caret, colon, question mark, asterisk, open
-- bracket or backslash. (git-check-ref-format(1), 4, 5 and 10)
abbrev pub is_forbidden : ℕ → Bool
is_forbidden byte = nat_lt byte 32 || byte == 127 || list_any (λ c. c == byte) (codes " ~^:?*[\\")

-- the byte at the place is a forbidden one
abbrev pub ForbiddenAt : List ℕ → ℕ → Type 0
ForbiddenAt name at = IsSomeAnd (slice_get name at) (λ byte. IsTrue (is_forbidden byte))

-- the name contains the text at the place
abbrev pub StandsAt : List ℕ → List ℕ → ℕ → Type 0
StandsAt text name at = IsTrue (starts_with nat_eq (drop at name) text)

-- Slashes separate the components of a name: one begins at the front and after each slash.
abbrev pub BeginsComponent : List ℕ → ℕ → Type 0
BeginsComponent name at = (at ≡ 0) ⊎ StandsAt (codes "/") name (at - 1)

-- a component ends before each slash and at the end
abbrev pub EndsComponent : List ℕ → ℕ → Type 0
EndsComponent name at = (at ≡ length name) ⊎ StandsAt (codes "/") name at

-- a component begins at the place, with a dot
abbrev pub HiddenAt : List ℕ → ℕ → Type 0
HiddenAt name at = StandsAt (codes ".") name at × BeginsComponent name at

-- a component ends with the suffix of lock files that begins at the place
abbrev pub LockAt : List ℕ → ℕ → Type 0
LockAt name at = StandsAt (codes ".lock") name at × EndsComponent name (at + 5)

-- no place has the property
abbrev pub Nowhere : (ℕ → Type 0) → Type 0
Nowhere P = (at : ℕ) → ¬ P at

-- the place is the first that has the property
pub record IsFirstPlace (P : ℕ → Type 0) (at : ℕ) : Type 0 where
  pub here : P at
  pub before : (k : ℕ) → k < at → ¬ P k

-- A name on one level, as `HEAD` or `ORIG_HEAD`, has capital letters and underscores only. (gix; Git so tells `HEAD`
-- and its like from other files)
abbrev pub is_capital : ℕ → Bool
is_capital byte = nat_le 65 byte && nat_le byte 90 || byte == 95

-- The name breaks the rule that the error names, and the error's place is the first where it does.
-- (git-check-ref-format(1), 1, 3 and 6 to 9)
abbrev pub Breaks : List ℕ → NameError → Type 0
Breaks name Empty = name ≡ []
Breaks name (InvalidByte at) = IsFirstPlace (ForbiddenAt name) at
Breaks name (RepeatedDot at) = IsFirstPlace (StandsAt (codes "..") name) at
Breaks name (ReflogPortion at) = IsFirstPlace (StandsAt (codes "@{") name) at
Breaks name StartsWithSlash = StandsAt (codes "/") name 0
Breaks name EndsWithSlash = StandsAt (codes "/") name (length name - 1)
Breaks name (RepeatedSlash at) = IsFirstPlace (StandsAt (codes "//") name) at
Breaks name (StartsWithDot at) = IsFirstPlace (HiddenAt name) at
Breaks name (LockFileSuffix at) = IsFirstPlace (LockAt name) at
Breaks name EndsWithDot = StandsAt (codes ".") name (length name - 1)
Breaks name SingleAt = name ≡ codes "@"
Breaks name SomeLowercase = Nowhere (StandsAt (codes "/") name) × (list_all is_capital name ≡ false)
Breaks name NoMemory = ⊥

-- the order in which the rules are asked
abbrev pub rank : NameError → ℕ
rank Empty = 0
rank (InvalidByte at) = 1
rank (RepeatedDot at) = 2
rank (ReflogPortion at) = 3
rank StartsWithSlash = 4
rank EndsWithSlash = 5
rank (RepeatedSlash at) = 6
rank (StartsWithDot at) = 7
rank (LockFileSuffix at) = 8
rank EndsWithDot = 9
rank SingleAt = 10
rank SomeLowercase = 11
rank NoMemory = 12

-- the name breaks no rule
abbrev pub IsFullName : List ℕ → Type 0
IsFullName name = (error : NameError) → ¬ Breaks name error

-- the name breaks no rule but perhaps the one on names without a slash (git-check-ref-format(1), --allow-onelevel)
abbrev pub IsPartialName : List ℕ → Type 0
IsPartialName name = (error : NameError) → error ≢ SomeLowercase → ¬ Breaks name error

-- the error names the first rule that the name breaks
abbrev pub IsFirstBroken : List ℕ → NameError → Type 0
IsFirstBroken name = IsFirst (Breaks name) rank
