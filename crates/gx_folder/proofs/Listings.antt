-- Names that are sorted, each once, and of which those are kept that begin with a prefix, are a listing.
use Rattle.std.proofs.Common.{rules, ◌≡◌, ◌∙◌, sym, ap, refl, subst, Bool, true, false, cond, List, [], ◌∷◌, ℕ, filter, nat_eq, IsTrue}
use Rattle.std.proofs.lemmas.List.Kept.{IsStrictlySortedBy-filter, IsStrictlySortedBy-dedup}
use Rattle.std.proofs.lemmas.List.Filters.{dedup_is}
use Rattle.std.specs.Cmp.Lexicographic.{nat_list_cmp_total, pointwise, slice_cmp}
use Rattle.std.specs.Cmp.Rules.{comparing}
use Rattle.std.specs.Ordering.{eq_by_cmp, nat_cmp}
use Rattle.std.specs.List.{starts_with, AllByRecursion, dedup}
use Rattle.std.specs.List.Retain.{IsFiltered, DiffersFromLast}
use Rattle.std.specs.List.Sorted.{IsSorted, IsStrictlySortedBy}
use Rattle.gx_rules.specs.Name.{name_cmp}
use Rattle.gx_store.specs.Listing.{IsListing}

same_ties : (a b : List ℕ) → pointwise nat_eq a b ≡ eq_by_cmp name_cmp a b
same_ties a b = search (comparing, rules)

kept_first : (p : List ℕ → Bool) (name : List ℕ) (names : List (List ℕ)) (b : Bool) → p name ≡ b → AllByRecursion (λ name. IsTrue (p name)) names
    → AllByRecursion (λ name. IsTrue (p name)) (cond b (name ∷ names) names)
kept_first p name names true e h = (e, h)
kept_first p name names false e h = h

all_kept : (p : List ℕ → Bool) (names : List (List ℕ)) → AllByRecursion (λ name. IsTrue (p name)) (filter p names)
all_kept p [] = tt
all_kept p (name ∷ names) = kept_first p name (filter p names) (p name) refl (all_kept p names)

pub listing : (prefix : List ℕ) (sorted once kept : List (List ℕ)) → IsSorted name_cmp sorted → IsFiltered (DiffersFromLast (pointwise nat_eq)) [] sorted once
    → kept ≡ filter (λ name. starts_with nat_eq name prefix) once → IsListing prefix kept
listing prefix sorted once kept order filtered same =
    let begins : List ℕ → Bool = λ name. starts_with nat_eq name prefix in
    let rising : IsStrictlySortedBy name_cmp once = subst (IsStrictlySortedBy name_cmp) (sym (dedup_is (pointwise nat_eq) sorted once filtered)) (IsStrictlySortedBy-dedup nat_list_cmp_total same_ties sorted order) in
    subst (IsListing prefix) (sym same) (record { prefixed = all_kept begins once; rising = IsStrictlySortedBy-filter name_cmp begins once rising })
