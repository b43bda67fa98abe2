-- Names above and below a name.
use Rattle.std.proofs.Common.{◌≡◌, ◌∙◌, sym, ap, refl, subst, Bool, true, false, cond, ◌||◌, ◌&&◌, List, [], ◌∷◌, ◌++◌, ℕ, zero, suc, ◌+◌, ◌<◌, length, take, drop, Option, Some, None, is_some, IsSome, IfSome, IfNone, filter, nat_eq, slice_get, arith, append_assoc, ◌⊎◌, inl, inr}
use Rattle.std.specs.Ordering.{eq_by_cmp}
use Rattle.std.specs.Cmp.{eq_by_cmp_equiv}
use Rattle.std.specs.Cmp.Lexicographic.{nat_list_cmp_total}
use Rattle.std.specs.List.{starts_with, list_any}
use Rattle.std.specs.FinMap.{FinMap, get, keys, contains_key, contains_key-keys}
use Rattle.gx_rules.specs.Name.{name_cmp}
use Rattle.gx_store.specs.Conflict.{IsProperPrefix, IsFree}
use Rattle.gx_store.specs.declared.target.Target.{Target}
use Rattle.gx_store.proofs.MapLemmas.{exact_names}
use Rattle.gx_store.proofs.SlotLemmas.{tied}
use Rattle.gx_store.proofs.Prefixes.{begins, starts_is, both_left, both_right, same_number}

-- ---- below

-- the first key that passes a test is a key, and passes it
first_found : (p : List ℕ → Bool) (ks : List (List ℕ)) (x : List ℕ) → slice_get (filter p ks) 0 ≡ Some x → (p x ≡ true) × (list_any (eq_by_cmp name_cmp x) ks ≡ true)
first_found p [] x e = cc
first_found p (k ∷ ks) x e = go (p k) refl (first_found p ks x) e
  where
    or_first : (a b : Bool) → a ≡ true → (a || b) ≡ true
    or_first true b f = refl
    or_first false b f = cc

    or_second : (a b : Bool) → b ≡ true → (a || b) ≡ true
    or_second true b f = refl
    or_second false b f = f

    out : (a b : List ℕ) → Some a ≡ Some b → a ≡ b
    out a b f = cc

    here : k ≡ x → p k ≡ true → (p x ≡ true) × (list_any (eq_by_cmp name_cmp x) (k ∷ ks) ≡ true)
    here f g = (ap p (sym f) ∙ g, or_first (eq_by_cmp name_cmp x k) _ (subst (λ y. eq_by_cmp name_cmp x y ≡ true) (sym f) ((eq_by_cmp_equiv nat_list_cmp_total).refl x)))

    go : (b : Bool) → p k ≡ b → (slice_get (filter p ks) 0 ≡ Some x → (p x ≡ true) × (list_any (eq_by_cmp name_cmp x) ks ≡ true)) → slice_get (cond b (k ∷ filter p ks) (filter p ks)) 0 ≡ Some x
        → (p x ≡ true) × (list_any (eq_by_cmp name_cmp x) (k ∷ ks) ≡ true)
    go true f rest g = here (out k x g) f
    go false f rest g = ((rest g).0, or_second (eq_by_cmp name_cmp x k) _ (rest g).1)

-- where no key passes, none is one that would
none_found : (p : List ℕ → Bool) (ks : List (List ℕ)) → slice_get (filter p ks) 0 ≡ None → (q : List ℕ) → p q ≡ true → list_any (eq_by_cmp name_cmp q) ks ≡ false
none_found p [] e q h = refl
none_found p (k ∷ ks) e q h = go (p k) refl (λ g. none_found p ks g q h) e
  where
    neither : (a b : Bool) → (a ≡ true → false ≡ true) → b ≡ false → (a || b) ≡ false
    neither true b f g = sym (f refl)
    neither false b f g = g

    go : (b : Bool) → p k ≡ b → (slice_get (filter p ks) 0 ≡ None → list_any (eq_by_cmp name_cmp q) ks ≡ false) → slice_get (cond b (k ∷ filter p ks) (filter p ks)) 0 ≡ None → list_any (eq_by_cmp name_cmp q) (k ∷ ks) ≡ false
    go true f rest g = cc
    go false f rest g = neither (eq_by_cmp name_cmp q k) _ (λ same. sym f ∙ ap p (sym (exact_names q k (tied _ same))) ∙ h) (rest g)

-- what follows a prefix
begins_split : (prefix name : List ℕ) → begins prefix name ≡ true → (rest : List ℕ) × (name ≡ prefix ++ rest)
unfolding begins
begins_split [] name e = (name, refl)
begins_split (p ∷ ps) [] e = cc
begins_split (p ∷ ps) (x ∷ xs) e =
    let rest = begins_split ps xs (both_right (nat_eq p x) _ e) in
    (rest.0, ap (λ ys. x ∷ ys) rest.1 ∙ ap (λ y. y ∷ ps ++ rest.0) (sym (same_number p x (both_left (nat_eq p x) _ e))))

begins_joined : (prefix rest : List ℕ) → begins prefix (prefix ++ rest) ≡ true
unfolding begins
begins_joined [] rest = refl
begins_joined (p ∷ ps) rest = ap (λ b. b && begins ps (ps ++ rest)) (same p) ∙ begins_joined ps rest
  where
    same : (n : ℕ) → nat_eq n n ≡ true
    same n = grind (arith)

no_value : {X : Type 0} (o : Option X) → is_some o ≡ false → o ≡ None
no_value None e = refl
no_value (Some x) e = cc

-- a name below is a prefix, a slash, and more
below_name : (name other : List ℕ) → starts_with nat_eq other (name ++ 47 ∷ []) ≡ true → IsProperPrefix name other
below_name name other e =
    let s = begins_split (name ++ 47 ∷ []) other (sym (starts_is (name ++ 47 ∷ []) other) ∙ e) in
    (s.0, s.1 ∙ append_assoc name (47 ∷ []) s.0)

below_starts : (name other : List ℕ) → IsProperPrefix name other → starts_with nat_eq other (name ++ 47 ∷ []) ≡ true
below_starts name other h = starts_is (name ++ 47 ∷ []) other
    ∙ ap (begins (name ++ 47 ∷ [])) (h.1 ∙ sym (append_assoc name (47 ∷ []) h.0)) ∙ begins_joined (name ++ 47 ∷ []) h.0

module _ (targets : FinMap name_cmp Target) (name : List ℕ) where
  first_below : (found : Option (List ℕ)) → found ≡ slice_get (filter (λ n. starts_with nat_eq n (name ++ 47 ∷ [])) (keys targets)) 0 → IfSome found (λ other. IsProperPrefix name other × IsSome (get targets other))
  first_below None e = tt
  first_below (Some other) e =
      let f = first_found (λ n. starts_with nat_eq n (name ++ 47 ∷ [])) (keys targets) other (sym e) in
      (below_name name other f.0, contains_key-keys targets other ∙ f.1)

  none_below : (found : Option (List ℕ)) → found ≡ slice_get (filter (λ n. starts_with nat_eq n (name ++ 47 ∷ [])) (keys targets)) 0 → IfNone found ((other : List ℕ) → IsProperPrefix name other → get targets other ≡ None)
  none_below None e = λ other h. no_value (get targets other)
      (contains_key-keys targets other ∙ none_found (λ n. starts_with nat_eq n (name ++ 47 ∷ [])) (keys targets) (sym e) other (below_starts name other h))
  none_below (Some other) e = tt

  pub below_some : (prefix : List ℕ) (found : Option (List ℕ)) → prefix ≡ name ++ 47 ∷ [] → found ≡ slice_get (filter (λ n. starts_with nat_eq n prefix) (keys targets)) 0 → IfSome found (λ other. IsProperPrefix name other × IsSome (get targets other))
  below_some prefix found p e = first_below found (e ∙ ap (λ x. slice_get (filter (λ n. starts_with nat_eq n x) (keys targets)) 0) p)

  pub below_none : (prefix : List ℕ) (found : Option (List ℕ)) → prefix ≡ name ++ 47 ∷ [] → found ≡ slice_get (filter (λ n. starts_with nat_eq n prefix) (keys targets)) 0 → IfNone found ((other : List ℕ) → IsProperPrefix name other → get targets other ≡ None)
  below_none prefix found p e = none_below found (e ∙ ap (λ x. slice_get (filter (λ n. starts_with nat_eq n x) (keys targets)) 0) p)

-- ---- above

-- a slash at a place cuts a name in two
cut_at : (name : List ℕ) (at : ℕ) → slice_get name at ≡ Some 47 → name ≡ take at name ++ 47 ∷ drop (suc at) name
cut_at [] at e = cc
cut_at (x ∷ xs) zero e = ap (λ y. y ∷ xs) (out x e)
  where
    out : (y : ℕ) → Some y ≡ Some 47 → y ≡ 47
    out y f = cc
cut_at (x ∷ xs) (suc at) e = ap (λ ys. x ∷ ys) (cut_at xs at e)

-- what stands before a slash
pub reference_there : (targets : FinMap name_cmp Target) (name above : List ℕ) (at : ℕ) → slice_get name at ≡ Some 47 → above ≡ take at name → contains_key targets above ≡ true → IsProperPrefix above name × IsSome (get targets above)
reference_there targets name above at slash e h = ((drop (suc at) name, cut_at name at slash ∙ ap (λ x. x ++ 47 ∷ drop (suc at) name) (sym e)), h)

slash_there : (shorter rest : List ℕ) → slice_get (shorter ++ 47 ∷ rest) (length shorter) ≡ Some 47
slash_there [] rest = refl
slash_there (x ∷ xs) rest = slash_there xs rest

front_there : (shorter rest : List ℕ) → take (length shorter) (shorter ++ 47 ∷ rest) ≡ shorter
front_there [] rest = refl
front_there (x ∷ xs) rest = ap (λ ys. x ∷ ys) (front_there xs rest)

module _ (targets : FinMap name_cmp Target) (name : List ℕ) where
  -- no proper prefix that is shorter than this has a target
  abbrev pub NoneAbove : ℕ → Type 0
  NoneAbove at = (other : List ℕ) → IsProperPrefix other name → length other < at → get targets other ≡ None

  -- the proper prefix of a length
  pub one_above : (at : ℕ) → (slice_get name at ≡ Some 47 → get targets (take at name) ≡ None) → (other : List ℕ) → IsProperPrefix other name → length other ≡ at → get targets other ≡ None
  one_above at h other p e =
      let there : slice_get name at ≡ Some 47 = ap (slice_get name) (sym e) ∙ ap (λ n. slice_get n (length other)) p.1 ∙ slash_there other p.0 in
      let front : take at name ≡ other = ap (λ k. take k name) (sym e) ∙ ap (take (length other)) p.1 ∙ front_there other p.0 in
      subst (λ x. get targets x ≡ None) front (h there)

  less_or_same : (a b : ℕ) → a < b + 1 → (a < b) ⊎ (a ≡ b)
  less_or_same zero zero h = inr refl
  less_or_same zero (suc b) h = inl (omega arith)
  less_or_same (suc a) zero h = absurd (omega arith)
  less_or_same (suc a) (suc b) h = go (less_or_same a b (omega arith))
    where
      go : (a < b) ⊎ (a ≡ b) → (suc a < suc b) ⊎ (suc a ≡ suc b)
      go (inl l) = inl (omega arith)
      go (inr e) = inr (ap suc e)

  pub above_more : (at : ℕ) → NoneAbove at → ((other : List ℕ) → IsProperPrefix other name → length other ≡ at → get targets other ≡ None) → NoneAbove (at + 1)
  above_more at h k other p l = go (less_or_same (length other) at l)
    where
      go : (length other < at) ⊎ (length other ≡ at) → get targets other ≡ None
      go (inl l) = h other p l
      go (inr e) = k other p e

  longer : (shorter rest : List ℕ) → length shorter < length (shorter ++ 47 ∷ rest)
  longer [] rest = omega arith
  longer (x ∷ xs) rest = let l = longer xs rest in omega arith

  pub above_all : NoneAbove (length name) → (other : List ℕ) → IsProperPrefix other name → get targets other ≡ None
  above_all h other p = h other p (subst (λ x. length other < length x) (sym p.1) (longer other p.0))

  neither_way : ((other : List ℕ) → IsProperPrefix other name → get targets other ≡ None) → ((other : List ℕ) → IsProperPrefix name other → get targets other ≡ None) → IsFree targets name
  neither_way above below other (inl p) = below other p
  neither_way above below other (inr p) = above other p

  -- nothing above, and nothing found below
  pub free : ((other : List ℕ) → IsProperPrefix other name → get targets other ≡ None) → (found : Option (List ℕ)) → IfNone found ((other : List ℕ) → IsProperPrefix name other → get targets other ≡ None) → IfNone found (IsFree targets name)
  free above None below = neither_way above below
  free above (Some found) below = tt
