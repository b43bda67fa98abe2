-- Where a reference is looked for by a part of its name, and which references are listed.
use Rattle.std.specs.Prelude.{◌≡◌, ◌↔◌, ℕ, IsTrue, List, [], ◌∷◌, ◌++◌, codes, nat_eq, Option, Some, None, IfSome, IsSome, Contains}
use Rattle.std.specs.List.{starts_with, AllByRecursion}
use Rattle.std.specs.List.Sorted.{IsStrictlySortedBy}
use Rattle.std.specs.FinMap.{FinMap, get}
use Rattle.gx_rules.specs.Name.{name_cmp, IsFullName}
use Rattle.gx_store.specs.State.{StoreState, RefState, IsUnreadable}
use Rattle.gx_store.specs.declared.target.Target.{Target}
use Rattle.gx_store.specs.declared.error.What.TheVariants as what
use Rattle.gx_refs.specs.Shown.{stored_name, IsShownTarget}
use Rattle.gx_refs.specs.declared.error.RefError.{RefError}
use Rattle.gx_refs.specs.declared.error.RefError.TheVariants.{Store, NoMemory}
use Rattle.gx_refs.specs.declared.reference.Reference.{Reference}

-- The full names that a part of one may mean, the first that is there being meant. (gitrevisions(7), "<refname>")
abbrev pub candidates : List ℕ → List (List ℕ)
candidates name =
    name
    ∷ (codes "refs/" ++ name)
    ∷ (codes "refs/tags/" ++ name)
    ∷ (codes "refs/heads/" ++ name)
    ∷ (codes "refs/remotes/" ++ name)
    ∷ (codes "refs/remotes/" ++ name ++ codes "/HEAD")
    ∷ []

-- A candidate that is no full name means nothing, and one that is means the reference of that name, if it is there.
abbrev pub MeansNothing : List ℕ → FinMap name_cmp Target → List ℕ → Type 0
MeansNothing space targets name = IsFullName name → get targets (stored_name space name) ≡ None

-- The reference of that name, as it is shown.
pub record IsReference (space : List ℕ) (told : Option RefState) (name : List ℕ) (reference : Reference) : Type 0 where
  pub named : reference.name ≡ name
  pub stored : Target
  pub there : IfSome told (λ refs. get refs.targets (stored_name space name) ≡ Some stored)
  pub shown : IsShownTarget space stored reference.target
  pub unpeeled : reference.peeled ≡ None

-- The candidate comes after others that mean nothing.
pub record IsReached (space : List ℕ) (told : Option RefState) (name candidate : List ℕ) : Type 0 where
  pub before : List (List ℕ)
  pub after : List (List ℕ)
  pub split : candidates name ≡ before ++ candidate ∷ after
  pub others : IfSome told (λ refs. AllByRecursion (MeansNothing space refs.targets) before)

-- The first candidate that means a reference means this one.
pub record IsMeant (space : List ℕ) (told : Option RefState) (name : List ℕ) (reference : Reference) : Type 0 where
  pub reached : IsReached space told name reference.name
  pub full : IsFullName reference.name
  pub is : IsReference space told reference.name reference

-- What a part of a name means: the reference, or nothing where no candidate means one.
abbrev pub Means : List ℕ → Option RefState → List ℕ → Option Reference → Type 0
Means space told name None = IfSome told (λ refs. AllByRecursion (MeansNothing space refs.targets) (candidates name))
Means space told name (Some reference) = IsMeant space told name reference

-- Why it is not known what a candidate means.
abbrev pub CandidateCauses : List ℕ → StoreState → List ℕ → RefError → Type 0
CandidateCauses space state name (Store fault) =
    IsFullName name × IsUnreadable state (what.Name (stored_name space name)) fault
CandidateCauses space state name NoMemory = Unit {0}
CandidateCauses space state name error = ⊥

-- Why a look-up is refused: a candidate is reached that can't be read. Lack of memory needs no cause.
abbrev pub FindCauses : List ℕ → StoreState → List ℕ → RefError → Type 0
FindCauses space state name NoMemory = Unit {0}
FindCauses space state name error =
    (other : List ℕ) × IsReached space state.references name other × CandidateCauses space state other error

-- ---- listings

-- the name begins with the prefix, and a reference of that name is there
pub record IsListed (space prefix : List ℕ) (targets : FinMap name_cmp Target) (name : List ℕ) : Type 0 where
  pub begins : IsTrue (starts_with nat_eq name prefix)
  pub full : IsFullName name
  pub there : IsSome (get targets (stored_name space name))

-- A listing has the names, as they are shown, of the references within the namespace that begin with the prefix, and
-- no others, in rising order of bytes. (git-for-each-ref(1), "<pattern>"; gitnamespaces(7))
pub record IsListing (space prefix : List ℕ) (targets : FinMap name_cmp Target) (names : List (List ℕ)) : Type 0 where
  pub each : (name : List ℕ) → Contains names name ↔ IsListed space prefix targets name
  pub rising : IsStrictlySortedBy name_cmp names

-- Why a listing is refused.
abbrev pub ListCauses : StoreState → RefError → Type 0
ListCauses state (Store fault) = (fault ≡ what.Listing) × IsTrue (state.unreadable fault)
ListCauses state NoMemory = Unit {0}
ListCauses state error = ⊥
