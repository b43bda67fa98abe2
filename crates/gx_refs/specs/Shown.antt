-- References of a namespace: the names that they are stored under, and the names that they are shown by.
use Rattle.std.specs.Prelude.{◌≡◌, ◌⊎◌, ℕ, List, [], ◌++◌, Option, Some, None}
use Rattle.gx_rules.specs.Namespace.{IsWithin}
use Rattle.gx_store.specs.declared.target.Target.{Target}
use Rattle.gx_store.specs.declared.target.Target.TheVariants as target

-- the prefix of a namespace; without one it has no bytes
abbrev pub prefix_of : Option (List ℕ) → List ℕ
prefix_of None = []
prefix_of (Some prefix) = prefix

-- A name given under a namespace is stored after its prefix. (gitnamespaces(7))
abbrev pub stored_name : List ℕ → List ℕ → List ℕ
stored_name space name = space ++ name

-- The name that a given symbolic target leads to is too. (Ours: Git stores it as it is given)
abbrev pub stored_target : List ℕ → Target → Target
stored_target space (target.Object id) = target.Object id
stored_target space (target.Symbolic name) = target.Symbolic (stored_name space name)

-- A stored name within the namespace is shown without the prefix, and any other as it is. (gitnamespaces(7))
abbrev pub IsShown : List ℕ → List ℕ → List ℕ → Type 0
IsShown space stored shown =
    IsWithin space stored shown ⊎ ((shown ≡ stored) × ((rest : List ℕ) → ¬ IsWithin space stored rest))

-- so is the name that a stored symbolic target leads to
abbrev pub IsShownTarget : List ℕ → Target → Target → Type 0
IsShownTarget space (target.Object id) shown = shown ≡ target.Object id
IsShownTarget space (target.Symbolic name) shown =
    (short : List ℕ) × IsShown space name short × (shown ≡ target.Symbolic short)

-- and what was found at a name, if anything was
abbrev pub IsShownFound : List ℕ → Option Target → Option Target → Type 0
IsShownFound space None shown = shown ≡ None
IsShownFound space (Some stored) shown = (short : Target) × IsShownTarget space stored short × (shown ≡ Some short)
