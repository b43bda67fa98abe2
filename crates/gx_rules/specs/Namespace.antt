-- Namespaces, which divide the references of one repository into sets.
use Rattle.std.specs.Prelude.{◌≡◌, ℕ, List, ◌++◌, codes}
use Rattle.std.specs.List.{flat_map}
use Rattle.gx_rules.specs.Name.{IsFullName, IsPartialName}
use Rattle.gx_rules.specs.Path.{components}

-- The references of the namespace `foo/bar` are stored under `refs/namespaces/foo/refs/namespaces/bar/`: each
-- component of the name expands to a level of the hierarchy. (gitnamespaces(7), DESCRIPTION)
abbrev pub level : List ℕ → List ℕ
level component = codes "refs/namespaces/" ++ component ++ codes "/"

-- the prefix of all references of a namespace
abbrev pub namespace_prefix : List ℕ → List ℕ
namespace_prefix name = flat_map level (components name)

-- A namespace has a name that the rules allow, and the prefix is that name's.
pub record IsNamespacePrefix (prefix : List ℕ) : Type 0 where
  pub name : List ℕ
  pub partial : IsPartialName name
  pub expands : prefix ≡ namespace_prefix name

-- A stored name belongs to the namespace if it is the prefix and a full name, which is the reference's name there.
abbrev pub IsWithin : List ℕ → List ℕ → List ℕ → Type 0
IsWithin prefix stored name = (stored ≡ prefix ++ name) × IsFullName name
