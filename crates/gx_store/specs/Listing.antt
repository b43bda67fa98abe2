-- Listings of names.
use Rattle.std.specs.Prelude.{ℕ, List, nat_eq, IsTrue}
use Rattle.std.specs.List.{AllByRecursion, starts_with}
use Rattle.std.specs.List.Sorted.{IsStrictlySortedBy}
use Rattle.gx_rules.specs.Name.{name_cmp}

-- The names of a listing begin with its prefix, and rise by their bytes, so that none is there twice.
-- (git-for-each-ref(1), "<pattern>" and "--sort")
pub record IsListing (prefix : List ℕ) (names : List (List ℕ)) : Type 0 where
  pub prefixed : AllByRecursion (λ name. IsTrue (starts_with nat_eq name prefix)) names
  pub rising : IsStrictlySortedBy name_cmp names
