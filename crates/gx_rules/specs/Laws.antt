-- What holds of names, for proofs above to cite. Each is also the contract of a function of the module `laws`; the
-- proofs are in the files below.
pub mod Categories
pub mod Formats
pub mod Namespaces
pub mod Paths
use Rattle.std.specs.Prelude.{◌≡◌, ℕ, List, ◌++◌}
use Rattle.gx_rules.specs.Category.{category_of, shared_prefix, short_name}
use Rattle.gx_rules.specs.Name.{IsFullName, IsPartialName}
use Rattle.gx_rules.specs.Namespace.{namespace_prefix}
use Rattle.gx_rules.specs.RefFormat.{IsWellFormed}
use Rattle.gx_rules.specs.Laws.Categories as categories
use Rattle.gx_rules.specs.Laws.Formats as formats
use Rattle.gx_rules.specs.Laws.Namespaces as namespaces

-- a partial name is well formed
pub well_formed : (name : List ℕ) → IsPartialName name → IsWellFormed name
well_formed = formats.well_formed

-- and a text that is well formed is a partial name
pub partial_again : (name : List ℕ) → IsWellFormed name → IsPartialName name
partial_again = formats.partial_again

-- a name is the prefix that its category's names share, followed by its short name
pub prefix_and_short_name : (name : List ℕ) → name ≡ shared_prefix (category_of name) ++ short_name name
prefix_and_short_name = categories.prefix_and_short_name

-- a full name that follows the prefix of a namespace is a full name
pub full_after_prefix : (name full : List ℕ) → IsPartialName name → IsFullName full
    → IsFullName (namespace_prefix name ++ full)
full_after_prefix = namespaces.full_after_prefix
