-- Which names of references conflict.
use Rattle.std.specs.Prelude.{◌≡◌, ◌∷◌, ◌++◌, ◌⊎◌, ℕ, List, None}
use Rattle.std.specs.FinMap.{FinMap, get}
use Rattle.gx_rules.specs.Name.{name_cmp}
use Rattle.gx_store.specs.declared.target.Target.{Target}

-- A name is a proper prefix of another, component by component, where the other is the name, a slash, and any bytes.
abbrev pub IsProperPrefix : List ℕ → List ℕ → Type 0
IsProperPrefix shorter longer = (rest : List ℕ) × (longer ≡ shorter ++ 47 ∷ rest)

-- A reference can't be both a file and a directory of others: `refs/heads/a` conflicts with `refs/heads/a/b`.
-- (Git, refs.c, "refs_verify_refname_available")
abbrev pub Conflict : List ℕ → List ℕ → Type 0
Conflict a b = IsProperPrefix a b ⊎ IsProperPrefix b a

-- No reference conflicts with the name.
abbrev pub IsFree : FinMap name_cmp Target → List ℕ → Type 0
IsFree targets name = (other : List ℕ) → Conflict name other → get targets other ≡ None
