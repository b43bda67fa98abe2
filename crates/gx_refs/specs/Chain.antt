-- Where symbolic references lead.
use Rattle.std.specs.Prelude.{◌≡◌, ◌≤◌, ℕ, Bool, true, false, List, [], ◌∷◌, ◌++◌, length, bytes_eq, Option, Some, None, IsTrue, IfSome}
use Rattle.std.specs.List.{list_any}
use Rattle.std.specs.FinMap.{FinMap, get}
use Rattle.gx_rules.specs.Name.{name_cmp}
use Rattle.gx_store.specs.State.{StoreState}
use Rattle.gx_store.specs.declared.target.Target.{Target}
use Rattle.gx_store.specs.declared.target.Target.TheVariants as target
use Rattle.gx_store.specs.declared.error.What.{What}
use Rattle.gx_store.specs.declared.error.What.TheVariants as what
use Rattle.gx_refs.specs.declared.chain_error.ChainError.{ChainError}
use Rattle.gx_refs.specs.declared.chain_error.ChainError.TheVariants.{Cycle, DepthLimitExceeded, Store, NoMemory}

-- the name is one of the names
abbrev pub is_among : List ℕ → List (List ℕ) → Bool
is_among name names = list_any (λ other. bytes_eq other name) names

-- no name is there twice
abbrev pub AreDistinct : List (List ℕ) → Type 0
AreDistinct [] = Unit {0}
AreDistinct (name ∷ names) = (is_among name names ≡ false) × AreDistinct names

-- A symbolic reference leads to the name that it holds. (gitglossary, "symref")
abbrev pub LeadsTo : FinMap name_cmp Target → List ℕ → List ℕ → Type 0
LeadsTo targets name next = get targets name ≡ Some (target.Symbolic next)

-- each name but the last leads to the one after it
abbrev pub IsPath : FinMap name_cmp Target → List (List ℕ) → Type 0
IsPath targets [] = Unit {0}
IsPath targets (name ∷ []) = Unit {0}
IsPath targets (name ∷ next ∷ names) = LeadsTo targets name next × IsPath targets (next ∷ names)

-- Names that a chain may have: the given one is the first, none comes twice, and there are at most six, so that no
-- more than five symbolic steps lie between them. (Ours; Git has a like limit:
-- refs/refs-internal.h, "SYMREF_MAXDEPTH".)
pub record IsChain (name : List ℕ) (names : List (List ℕ)) : Type 0 where
  pub others : List (List ℕ)
  pub first : names ≡ name ∷ others
  pub distinct : AreDistinct names
  pub short : length names ≤ 6

-- Such names, of which each but the last leads to the next.
pub record IsWalked (targets : FinMap name_cmp Target) (name : List ℕ) (names : List (List ℕ)) : Type 0 where
  pub chain : IsChain name names
  pub path : IsPath targets names

-- Names are walked up to the end.
pub record WalksTo (targets : FinMap name_cmp Target) (name : List ℕ) (names : List (List ℕ))
    (end : List ℕ) : Type 0 where
  pub walked : IsWalked targets name names
  pub before : List (List ℕ)
  pub last : names ≡ before ++ end ∷ []

-- a name that leads nowhere: it is absent, or names an object
abbrev pub IsEnd : Option Target → Type 0
IsEnd None = Unit {0}
IsEnd (Some (target.Object id)) = Unit {0}
IsEnd (Some (target.Symbolic next)) = ⊥

-- The chain of a name ends in the first that is absent or names an object. (git-symbolic-ref(1))
pub record EndsIn (targets : FinMap name_cmp Target) (name : List ℕ) (names : List (List ℕ)) (end : List ℕ)
    (found : Option Target) : Type 0 where
  pub walks : WalksTo targets name names end
  pub is : found ≡ get targets end
  pub stops : IsEnd found

-- The names lead back to one of them.
pub record CyclesAlong (targets : FinMap name_cmp Target) (name : List ℕ) (names : List (List ℕ)) : Type 0 where
  pub end : List ℕ
  pub walks : WalksTo targets name names end
  pub back : List ℕ
  pub leads : LeadsTo targets end back
  pub known : is_among back names ≡ true

-- The names lead to another, but five symbolic steps were taken.
pub record GoesTooDeep (targets : FinMap name_cmp Target) (name : List ℕ) (names : List (List ℕ)) : Type 0 where
  pub end : List ℕ
  pub walks : WalksTo targets name names end
  pub full : length names ≡ 6
  pub next : List ℕ
  pub leads : LeadsTo targets end next
  pub new : is_among next names ≡ false

-- the chain of the name ends, along these names
abbrev pub Ends : FinMap name_cmp Target → List ℕ → List (List ℕ) → Type 0
Ends targets name names = (end : List ℕ) × (found : Option Target) × EndsIn targets name names end found

-- the name leads back into its own chain
abbrev pub Cycles : FinMap name_cmp Target → List ℕ → Type 0
Cycles targets name = (names : List (List ℕ)) × CyclesAlong targets name names

-- the name leads through too many others
abbrev pub IsTooDeep : FinMap name_cmp Target → List ℕ → Type 0
IsTooDeep targets name = (names : List (List ℕ)) × GoesTooDeep targets name names

-- the name is on the way from the given one
abbrev pub IsOnChain : FinMap name_cmp Target → List ℕ → List ℕ → Type 0
IsOnChain targets name reached = (names : List (List ℕ)) × WalksTo targets name names reached

-- a fault names a name on the way that can't be read
abbrev pub IsChainFault : StoreState → List ℕ → What → Type 0
IsChainFault state name (what.Name reached) =
    IsTrue (state.unreadable (what.Name reached))
    × IfSome state.references (λ refs. IsOnChain refs.targets name reached)
IsChainFault state name (what.Object id) = ⊥
IsChainFault state name what.Index = ⊥
IsChainFault state name what.Listing = ⊥
IsChainFault state name what.Write = ⊥

-- Why a name has no chain. Lack of memory needs no cause.
abbrev pub ChainCauses : StoreState → List ℕ → ChainError → Type 0
ChainCauses state name (Cycle kept) = (kept ≡ name) × IfSome state.references (λ refs. Cycles refs.targets name)
ChainCauses state name (DepthLimitExceeded kept) =
    (kept ≡ name) × IfSome state.references (λ refs. IsTooDeep refs.targets name)
ChainCauses state name (Store fault) = IsChainFault state name fault
ChainCauses state name NoMemory = Unit {0}
