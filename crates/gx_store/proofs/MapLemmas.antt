-- Maps that are kept as entries.
use Rattle.std.proofs.Common.{◌≡◌, ◌∙◌, sym, ap, refl, subst, cond, List, [], ◌∷◌, ℕ, Some, None, is_some, IsSome, length}
use Rattle.std.specs.declared.cmp.Ordering.{Ordering}
use Rattle.std.specs.BTreeMap.{is_at}
use Rattle.std.specs.Cmp.{IsTotalOrder, eq_by_cmp_equiv}
use Rattle.std.specs.Map.{lookup, keys_of}
use Rattle.std.specs.List.Sorted.{IsStrictlySortedBy}
use Rattle.gx_rules.specs.Name.{name_cmp}
use Rattle.gx_hash.specs.ObjectId.{id_cmp}
use Rattle.gx_hash.specs.declared.oid.ObjectId.{ObjectId}
use Rattle.gx_object.specs.declared.kind.Kind.{Kind}
use Rattle.gx_store.specs.Content.{with_object}
use Rattle.gx_hash.specs.Laws.{id_cmp_total, id_cmp-IsAntisymmetric, derived_cmp-id_cmp}
use Rattle.gx_hash.specs.ObjectIds.{derived_cmp}
use Rattle.std.specs.FinMap.{IsAntisymmetric, slice_cmp-IsAntisymmetric, nat_cmp-IsAntisymmetric, find, get, insert, empty, entries, len, put, from_entries, get-from_entries, get-insert, entries-insert, len-entries, len-empty, same_map}
use Rattle.gx_store.proofs.Keys.{no_length, put_first}

-- two ways to find the first entry of a key
pub find_is : {K X : Type 0} (R : K → K → Ordering) (es : List (K × X)) (q : K) → find R q es ≡ lookup (is_at (R q)) es
find_is R [] q = refl
find_is R (e ∷ es) q = ap (cond (is_at (R q) e.0) (Some e.1)) (find_is R es q)

-- what the map of some entries has at a key
pub get_kept : {K X : Type 0} {R : K → K → Ordering} → IsTotalOrder R → (es : List (K × X)) (q : K) → get (from_entries {R = R} es) q ≡ lookup (is_at (R q)) es
get_kept {R = R} total es q = get-from_entries total es q ∙ find_is R es q

-- entries that differ at one key make maps that differ there
pub inserted : {K X : Type 0} {R : K → K → Ordering} → IsTotalOrder R → IsAntisymmetric R → (es fs : List (K × X)) (k : K) (v : X) → ((q : K) → lookup (is_at (R q)) fs ≡ cond (is_at (R k) q) (Some v) (lookup (is_at (R q)) es)) → from_entries {R = R} fs ≡ insert (from_entries es) k v
inserted {R = R} total exact es fs k v h = same_map total exact _ _ (λ q.
    get_kept total fs q ∙ h q ∙ ap (λ b. cond b (Some v) (lookup (is_at (R q)) es)) ((eq_by_cmp_equiv total).symm k q)
    ∙ sym (get-insert total (from_entries es) k v q ∙ ap (cond (is_at (R q) k) (Some v)) (get_kept total es q)))

-- the same of ids, which a tree map compares by their derived order
pub get_object : {X : Type 0} (es : List (ObjectId × X)) (q : ObjectId) → get (from_entries {R = id_cmp} es) q ≡ lookup (is_at (derived_cmp q)) es
get_object es q = get_kept id_cmp_total es q ∙ ap (λ R. lookup (is_at (R q)) es) (sym derived_cmp-id_cmp)

pub inserted_object : {X : Type 0} (es fs : List (ObjectId × X)) (k : ObjectId) (v : X) → ((q : ObjectId) → lookup (is_at (derived_cmp q)) fs ≡ cond (is_at (derived_cmp k) q) (Some v) (lookup (is_at (derived_cmp q)) es)) → from_entries {R = id_cmp} fs ≡ insert (from_entries es) k v
inserted_object es fs k v h = inserted id_cmp_total id_cmp-IsAntisymmetric es fs k v
    (subst (λ R. (q : ObjectId) → lookup (is_at (R q)) fs ≡ cond (is_at (R k) q) (Some v) (lookup (is_at (R q)) es)) derived_cmp-id_cmp h)

-- an object that is put unless its id is there
pub object_kept : (es fs : List (ObjectId × (Kind × List ℕ))) (k : ObjectId) (v : Kind × List ℕ) → fs ≡ es → IsSome (lookup (is_at (derived_cmp k)) es) → from_entries {R = id_cmp} fs ≡ with_object k v (from_entries es)
object_kept es fs k v e h = ap (λ gs. from_entries {R = id_cmp} gs) e
    ∙ sym (ap (λ b. cond b (from_entries {R = id_cmp} es) (insert (from_entries es) k v)) (ap is_some (get_object es k) ∙ h))

pub object_added : (es fs : List (ObjectId × (Kind × List ℕ))) (k : ObjectId) (v : Kind × List ℕ) → ((q : ObjectId) → lookup (is_at (derived_cmp q)) fs ≡ cond (is_at (derived_cmp k) q) (Some v) (lookup (is_at (derived_cmp q)) es)) → lookup (is_at (derived_cmp k)) es ≡ None → from_entries {R = id_cmp} fs ≡ with_object k v (from_entries es)
object_added es fs k v u h = inserted_object es fs k v u
    ∙ sym (ap (λ b. cond b (from_entries {R = id_cmp} es) (insert (from_entries es) k v)) (ap is_some (get_object es k) ∙ ap is_some h))

-- names that compare as equal are one
pub exact_names : IsAntisymmetric name_cmp
exact_names = slice_cmp-IsAntisymmetric nat_cmp-IsAntisymmetric

-- entries in order are those of their map
entries_kept : {K X : Type 0} {R : K → K → Ordering} → IsTotalOrder R → (es : List (K × X)) → IsStrictlySortedBy R (keys_of es) → entries (from_entries {R = R} es) ≡ es
unfolding IsStrictlySortedBy
entries_kept {X = X} {R = R} total [] h = no_length _ (sym (len-entries (empty {X = X} {R = R})) ∙ len-empty R X)
entries_kept {R = R} total (e ∷ es) h = entries-insert total (from_entries es) e.0 e.1 ∙ ap (put R e.0 e.1) (entries_kept total es h.1) ∙ put_first R e.0 e.1 es h.0

-- so the map has as many
pub len_kept : {X : Type 0} (es : List (ObjectId × X)) → IsStrictlySortedBy derived_cmp (keys_of es) → length es ≡ len (from_entries {R = id_cmp} es)
len_kept es h = sym (len-entries (from_entries {R = id_cmp} es) ∙ ap length (entries_kept id_cmp_total es (subst (λ R. IsStrictlySortedBy R (keys_of es)) derived_cmp-id_cmp h)))
