-- Of the ids in a tree map that come before an id, and of those that come after it, the nearest one shares the most first
-- digits with it.
use Rattle.std.proofs.Common.{◌≡◌, ◌≢◌, ◌∙◌, sym, ap, refl, subst, ℕ, ◌<◌, ◌≤◌, max, true, false, List, [], ◌∷◌, ◌++◌, Some, None, IsSome, IfSome, is_some, ◌⊎◌, inl, inr, arith}
use Rattle.std.specs.declared.cmp.Ordering.{Ordering}
use Rattle.std.specs.declared.cmp.Ordering.TheVariants.{Less, Equal, Greater}
use Rattle.std.specs.declared.ops.Bound.TheVariants.{Included, Excluded, Unbounded}
use Rattle.std.specs.Ordering.{is_gt, is_lt, ordering_reverse}
use Rattle.std.specs.Cmp.{tied_itself}
use Rattle.std.proofs.lemmas.Bool.{cases_lt}
use Rattle.std.specs.BTreeMap.{BTreeMap, is_at}
use Rattle.std.specs.BTreeMap.Range.{IsRangeOf, IsEntryInRange}
use Rattle.std.specs.Map.{lookup}
use Rattle.std.specs.List.{slice_get}
use Rattle.std.specs.FinMap.{get}
use Rattle.hex.specs.Hex.{IsBytes}
use Rattle.gx_hash.specs.HashKind.{kind_of}
use Rattle.gx_hash.specs.IdDigits.{HasOwnDigits}
use Rattle.gx_hash.specs.ObjectId.{bytes_of, id_cmp}
use Rattle.gx_hash.specs.ObjectIds.{derived_cmp}
use Rattle.gx_hash.specs.Laws.{id_cmp_total, id_cmp-IsAntisymmetric, derived_cmp-id_cmp}
use Rattle.gx_hash.specs.declared.oid.ObjectId.{ObjectId}
use Rattle.gx_hash.specs.declared.oid.ObjectId.TheVariants.{Sha1, Sha256}
use Rattle.gx_object.specs.declared.kind.Kind.{Kind}
use Rattle.gx_store.specs.Kept.{content_of}
use Rattle.gx_store.specs.Sharing.{IsAfter, IsAnother, IsBefore, IsLongestShared, IsMostShared, shared_digits}
use Rattle.gx_store.proofs.MapLemmas.{get_object}
use Rattle.gx_store.proofs.SharedLemmas.{nearer_after, nearer_before}

not_greater : (r : Ordering) → r ≡ Less → is_gt r ≡ false
not_greater r e = ap is_gt e

-- an id between two of one kind is of that kind, and shares as much with the first as the last does
near_after : (id near other : ObjectId) → IsBytes (bytes_of id) → id_cmp id near ≡ Less → is_gt (id_cmp near other) ≡ false → kind_of other ≡ kind_of id → (kind_of near ≡ kind_of id) × (shared_digits id other ≤ shared_digits id near)
near_after (Sha1 a) (Sha1 b) (Sha1 c) h p q k = (refl, nearer_after a b c h (not_greater _ p) q)
near_after (Sha256 a) (Sha256 b) (Sha256 c) h p q k = (refl, nearer_after a b c h (not_greater _ p) q)
near_after (Sha1 a) (Sha256 b) (Sha1 c) h p q k = cc
near_after (Sha256 a) (Sha1 b) (Sha256 c) h p q k = cc
near_after (Sha1 a) b (Sha256 c) h p q k = cc
near_after (Sha256 a) b (Sha1 c) h p q k = cc

near_before : (id near other : ObjectId) → IsBytes (bytes_of id) → id_cmp near id ≡ Less → is_gt (id_cmp other near) ≡ false → kind_of other ≡ kind_of id → (kind_of near ≡ kind_of id) × (shared_digits id other ≤ shared_digits id near)
near_before (Sha1 a) (Sha1 b) (Sha1 c) h p q k = (refl, nearer_before a b c h q (not_greater _ p))
near_before (Sha256 a) (Sha256 b) (Sha256 c) h p q k = (refl, nearer_before a b c h q (not_greater _ p))
near_before (Sha1 a) (Sha256 b) (Sha1 c) h p q k = cc
near_before (Sha256 a) (Sha1 b) (Sha256 c) h p q k = cc
near_before (Sha1 a) b (Sha256 c) h p q k = cc
near_before (Sha256 a) b (Sha1 c) h p q k = cc

of_kind : (a b : ObjectId) → (kind_of a ≡ kind_of b) ⊎ (kind_of a ≢ kind_of b)
of_kind (Sha1 a) (Sha1 b) = inl refl
of_kind (Sha256 a) (Sha256 b) = inl refl
of_kind (Sha1 a) (Sha256 b) = inr (λ e. cc)
of_kind (Sha256 a) (Sha1 b) = inr (λ e. cc)

-- the nearest of some ids decides
settle : (P : ObjectId → Type 0) (id near : ObjectId) (n : ℕ) → (kind_of near ≡ kind_of id → P near)
    → ((other : ObjectId) → P other → (kind_of near ≡ kind_of id) × (shared_digits id other ≤ shared_digits id near))
    → (kind_of near ≡ kind_of id → n ≡ shared_digits id near) → (kind_of near ≢ kind_of id → n ≡ 0) → IsMostShared P id n
settle P id near n one all same apart = elim (of_kind near id) [
  | inl e ↦ record { most = λ other p. subst (λ m. shared_digits id other ≤ m) (sym (same e)) (all other p).1; reached = λ some. (near, one e, sym (same e)) }
  | inr e ↦ record { most = λ other p. absurd (e (all other p).0); reached = λ some. absurd (omega (arith, apart e, some)) }
]

settle_none : (P : ObjectId → Type 0) (id : ObjectId) → ((other : ObjectId) → P other → ⊥) → IsMostShared P id 0
settle_none P id none = record { most = λ other p. absurd (none other p); reached = λ some. absurd (omega (arith, some)) }

module _ (map : BTreeMap ObjectId (Kind × List ℕ)) (id : ObjectId) (range : List (ObjectId × (Kind × List ℕ))) where
  less_derived : (a b : ObjectId) → id_cmp a b ≡ Less → derived_cmp a b ≡ Less
  less_derived a b e = subst (λ R. R a b ≡ Less) (sym derived_cmp-id_cmp) e

  less_given : (a b : ObjectId) → derived_cmp a b ≡ Less → id_cmp a b ≡ Less
  less_given a b e = subst (λ R. R a b ≡ Less) derived_cmp-id_cmp e

  found_derived : (q : ObjectId) → IsSome (get (content_of map) q) → IsSome (lookup (is_at (derived_cmp q)) map.entries)
  found_derived q h = sym (ap is_some (get_object map.entries q)) ∙ h

  found_given : (q : ObjectId) (x : Kind × List ℕ) → lookup (is_at (derived_cmp q)) map.entries ≡ Some x → IsSome (get (content_of map) q)
  found_given q x h = ap is_some (get_object map.entries q ∙ h)

  no_none : (q : ObjectId) → IsSome (lookup (is_at (derived_cmp q)) map.entries) → lookup (is_at (derived_cmp q)) map.entries ≡ None → ⊥
  no_none q h e = true_false (sym h ∙ ap is_some e)
    where
      true_false : true ≡ false → ⊥
      true_false e = cc

  pub after_none : IsRangeOf derived_cmp (Excluded id) Unbounded map range → range ≡ [] → IsMostShared (IsAfter (content_of map) id) id 0
  after_none h e = settle_none _ id (λ other p. no_none other (found_derived other p.0) (h.5 e other (less_derived id other p.3, tt)))

  pub before_none : IsRangeOf derived_cmp Unbounded (Excluded id) map range → range ≡ [] → IsMostShared (IsBefore (content_of map) id) id 0
  before_none h e = settle_none _ id (λ other p. no_none other (found_derived other p.0) (h.5 e other (tt, less_derived other id p.3)))

  pub after_some : (near : ObjectId) (x : Kind × List ℕ) (rest : List (ObjectId × (Kind × List ℕ))) (n : ℕ) → IsBytes (bytes_of id) → HasOwnDigits near → IsRangeOf derived_cmp (Excluded id) Unbounded map range → range ≡ (near, x) ∷ rest
      → (kind_of near ≡ kind_of id → n ≡ shared_digits id near) → (kind_of near ≢ kind_of id → n ≡ 0) → IsMostShared (IsAfter (content_of map) id) id n
  after_some near x rest n bytes digits h e same apart =
      let first : IsEntryInRange derived_cmp (Excluded id) Unbounded map (near, x) = subst (λ r. IfSome (slice_get r 0) (IsEntryInRange derived_cmp (Excluded id) Unbounded map)) e h.1 in
      settle _ id near n (λ k. (found_given near x first.1, k, digits, less_given id near first.0.0)) (λ other p.
      near_after id near other bytes (less_given id near first.0.0) (subst (λ R. is_gt (R near other) ≡ false) derived_cmp-id_cmp
      (subst (λ r. IfSome (slice_get r 0) (λ e. is_gt (derived_cmp e.0 other) ≡ false)) e (h.2 other (less_derived id other p.3, tt) (found_derived other p.0)))) p.1) same apart

  pub before_some : (near : ObjectId) (x : Kind × List ℕ) (rest : List (ObjectId × (Kind × List ℕ))) (n : ℕ) → IsBytes (bytes_of id) → HasOwnDigits near → IsRangeOf derived_cmp Unbounded (Excluded id) map range → range ≡ rest ++ (near, x) ∷ []
      → (kind_of near ≡ kind_of id → n ≡ shared_digits id near) → (kind_of near ≢ kind_of id → n ≡ 0) → IsMostShared (IsBefore (content_of map) id) id n
  before_some near x rest n bytes digits h e same apart =
      let last : IsEntryInRange derived_cmp Unbounded (Excluded id) map (near, x) = h.3 (near, x) rest e in
      settle _ id near n (λ k. (found_given near x last.1, k, digits, less_given near id last.0.1)) (λ other p.
      near_before id near other bytes (less_given near id last.0.1) (turned near other (subst (λ R. is_lt (R near other) ≡ false) derived_cmp-id_cmp (h.4 (near, x) rest e other (tt, less_derived other id p.3) (found_derived other p.0)))) p.1) same apart
    where
      turned : (a b : ObjectId) → is_lt (id_cmp a b) ≡ false → is_gt (id_cmp b a) ≡ false
      turned a b h = ap is_gt (id_cmp_total.antisymm b a) ∙ go (id_cmp a b) h
        where
          go : (r : Ordering) → is_lt r ≡ false → is_gt (ordering_reverse r) ≡ false
          go Less e = cc
          go Equal e = refl
          go Greater e = refl

-- ids before and after are all others
pub both_sides : (map : BTreeMap ObjectId (Kind × List ℕ)) (id : ObjectId) (m n : ℕ) → IsMostShared (IsBefore (content_of map) id) id m → IsMostShared (IsAfter (content_of map) id) id n → IsLongestShared (content_of map) id (max m n)
both_sides map id m n before after = record {
  most = λ other p. most other p (id_cmp other id) refl;
  reached = λ some. reached some (cases_lt m n);
}
  where
    most : (other : ObjectId) → IsAnother (content_of map) id other → (r : Ordering) → id_cmp other id ≡ r → shared_digits id other ≤ max m n
    most other p Less e = let fact = before.most other (p.found, p.kind, p.digits, e) in omega (arith, fact)
    most other p Equal e = absurd (p.apart (id_cmp-IsAntisymmetric other id e))
    most other p Greater e = let fact = after.most other (p.found, p.kind, p.digits, id_cmp_total.antisymm id other ∙ ap ordering_reverse e) in omega (arith, fact)

    not_less : (r : Ordering) → r ≡ Equal → r ≡ Less → ⊥
    not_less r e f = cc

    apart_from : (other : ObjectId) → (id_cmp other id ≡ Less) ⊎ (id_cmp id other ≡ Less) → other ≢ id
    apart_from other (inl e) same = not_less _ (tied_itself id_cmp_total id) (subst (λ q. id_cmp q id ≡ Less) same e)
    apart_from other (inr e) same = not_less _ (tied_itself id_cmp_total id) (subst (λ q. id_cmp id q ≡ Less) same e)

    reached : 0 < max m n → (m < n) ⊎ (n ≤ m) → (other : ObjectId) × IsAnother (content_of map) id other × (shared_digits id other ≡ max m n)
    reached some (inl lt) = let r = after.reached (omega (arith, lt)) in (r.0, record { found = r.1.0; kind = r.1.1; digits = r.1.2; apart = apart_from r.0 (inr r.1.3) }, r.2 ∙ omega (arith, lt))
    reached some (inr le) = let r = before.reached (omega (arith, le, some)) in (r.0, record { found = r.1.0; kind = r.1.1; digits = r.1.2; apart = apart_from r.0 (inl r.1.3) }, r.2 ∙ omega (arith, le))
