-- The names of a map that begin with a prefix are a listing.
use Rattle.std.proofs.Common.{◌≡◌, ◌∙◌, sym, ap, refl, subst, Bool, true, false, cond, ◌&&◌, List, [], ◌∷◌, ℕ, T, map, filter, nat_eq, IsTrue}
use Rattle.std.proofs.lemmas.Bool.{and_parts}
use Rattle.std.proofs.lemmas.List.Kept.{IsStrictlySortedBy-filter}
use Rattle.std.specs.declared.cmp.Ordering.{Ordering}
use Rattle.std.specs.declared.cmp.Ordering.TheVariants.{Less, Equal, Greater}
use Rattle.std.specs.Ordering.{is_lt}
use Rattle.std.specs.List.{starts_with, AllByRecursion}
use Rattle.std.specs.List.Sorted.{IsStrictlySortedBy}
use Rattle.std.specs.FinMap.{FinMap, keys, entries, entries_sorted}
use Rattle.std.specs.FinMap.Entries.{is_sorted, below_all}
use Rattle.gx_rules.specs.Name.{name_cmp}
use Rattle.gx_store.specs.Listing.{IsListing}

less : (o : Ordering) → T (is_lt o) → o ≡ Less
less Less p = refl
less Equal p = absurd p
less Greater p = absurd p

left : (a b : Bool) → T (a && b) → T a
left true b p = tt
left false b p = p

right : (a b : Bool) → T (a && b) → T b
right true b p = p
right false b p = absurd p

all_below : {K X : Type 0} (R : K → K → Ordering) (k : K) (es : List (K × X)) → T (below_all R k es) → AllByRecursion (λ y. R k y ≡ Less) (map (λ e. e.0) es)
all_below R k [] h = tt
all_below R k (e ∷ es) h = (less (R k e.0) (left _ _ h), all_below R k es (right _ _ h))

keys_rise : {K X : Type 0} (R : K → K → Ordering) (es : List (K × X)) → T (is_sorted R es) → IsStrictlySortedBy R (map (λ e. e.0) es)
unfolding IsStrictlySortedBy
keys_rise R [] h = tt
keys_rise R (e ∷ es) h = (all_below R e.0 es (left _ _ h), keys_rise R es (right _ _ h))

kept_first : (p : List ℕ → Bool) (name : List ℕ) (names : List (List ℕ)) (b : Bool) → p name ≡ b → AllByRecursion (λ name. IsTrue (p name)) names
    → AllByRecursion (λ name. IsTrue (p name)) (cond b (name ∷ names) names)
kept_first p name names true e h = (e, h)
kept_first p name names false e h = h

all_kept : (p : List ℕ → Bool) (names : List (List ℕ)) → AllByRecursion (λ name. IsTrue (p name)) (filter p names)
all_kept p [] = tt
all_kept p (name ∷ names) = kept_first p name (filter p names) (p name) refl (all_kept p names)

-- what the listing of a map gives
pub listing : {X : Type 0} (prefix : List ℕ) (m : FinMap name_cmp X) (names : List (List ℕ)) → names ≡ filter (λ name. starts_with nat_eq name prefix) (keys m) → IsListing prefix names
listing prefix m names same = subst (IsListing prefix) (sym same) (record {
  prefixed = all_kept (λ name. starts_with nat_eq name prefix) (keys m);
  rising = IsStrictlySortedBy-filter name_cmp (λ name. starts_with nat_eq name prefix) (keys m) (keys_rise name_cmp (entries m) (entries_sorted m));
})
