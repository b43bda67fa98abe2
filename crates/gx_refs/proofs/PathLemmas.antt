-- Paths of symbolic references, and how they go on.
use Rattle.std.proofs.Common.{◌≡◌, ◌∙◌, ◌<◌, sym, ap, refl, subst, ℕ, false, List, [], ◌∷◌, ◌++◌, length, Some, inl, inr, ◌⊎◌, arith}
use Rattle.std.proofs.Math.Seq.{append_snoc}
use Rattle.std.proofs.lemmas.List.{length-append}
use Rattle.std.specs.FinMap.{FinMap}
use Rattle.gx_rules.specs.Name.{name_cmp}
use Rattle.gx_store.specs.declared.target.Target.{Target}
use Rattle.gx_store.specs.declared.target.Target.TheVariants as target
use Rattle.gx_refs.specs.Chain.{is_among, LeadsTo, IsPath, IsChain}
use Rattle.gx_refs.proofs.NameLemmas.{distinct_more}

-- a path and one step more
pub path_more : (targets : FinMap name_cmp Target) (before : List (List ℕ)) (end next : List ℕ) → IsPath targets (before ++ end ∷ []) → LeadsTo targets end next → IsPath targets ((before ++ end ∷ []) ++ next ∷ [])
path_more targets [] end next p leads = (leads, tt)
path_more targets (a ∷ []) end next p leads = (p.0, (leads, tt))
path_more targets (a ∷ b ∷ before) end next p leads = (p.0, path_more targets (b ∷ before) end next p.1 leads)

-- a step within a path
step_within : (targets : FinMap name_cmp Target) (before : List (List ℕ)) (end next : List ℕ) (more : List (List ℕ)) → IsPath targets (before ++ end ∷ next ∷ more) → LeadsTo targets end next
step_within targets [] end next more p = p.0
step_within targets (a ∷ []) end next more p = p.1.0
step_within targets (a ∷ b ∷ before) end next more p = step_within targets (b ∷ before) end next more p.1

pub step_behind : (targets : FinMap name_cmp Target) (names before : List (List ℕ)) (end next : List ℕ) (more : List (List ℕ)) → names ≡ before ++ end ∷ [] → IsPath targets (names ++ next ∷ more) → LeadsTo targets end next
step_behind targets names before end next more last p =
    step_within targets before end next more (subst (IsPath targets) (ap (λ xs. xs ++ next ∷ more) last ∙ append_snoc before end (next ∷ more)) p)

pub one_target : (targets : FinMap name_cmp Target) (name a b : List ℕ) → LeadsTo targets name a → LeadsTo targets name b → a ≡ b
one_target targets name a b p q = let e : Some (target.Symbolic a) ≡ Some (target.Symbolic b) = sym p ∙ q in cc

-- the second list goes on after the first
abbrev pub GoesOn : List (List ℕ) → List (List ℕ) → Type 0
GoesOn xs ys = (next : List ℕ) × (more : List (List ℕ)) × (ys ≡ xs ++ next ∷ more)

-- Of two paths from one name one goes on after the other, or they are one.
pub one_way : (targets : FinMap name_cmp Target) (name : List ℕ) (xs ys : List (List ℕ)) → IsPath targets (name ∷ xs) → IsPath targets (name ∷ ys) → (xs ≡ ys) ⊎ (GoesOn xs ys ⊎ GoesOn ys xs)
one_way targets name [] [] p q = inl refl
one_way targets name [] (b ∷ ys) p q = inr (inl (b, ys, refl))
one_way targets name (a ∷ xs) [] p q = inr (inr (a, xs, refl))
one_way targets name (a ∷ xs) (b ∷ ys) p q =
    let same : a ≡ b = one_target targets name a b p.0 q.0 in
    put same (one_way targets b xs ys (subst (λ x. IsPath targets (x ∷ xs)) same p.1) q.1)
  where
    put : a ≡ b → (xs ≡ ys) ⊎ (GoesOn xs ys ⊎ GoesOn ys xs) → (a ∷ xs ≡ b ∷ ys) ⊎ (GoesOn (a ∷ xs) (b ∷ ys) ⊎ GoesOn (b ∷ ys) (a ∷ xs))
    put same (inl e) = inl cc
    put same (inr (inl (next, more, e))) = inr (inl (next, more, cc))
    put same (inr (inr (next, more, e))) = inr (inr (next, more, cc))

-- a chain and one name more
pub chain_more : (name : List ℕ) (names : List (List ℕ)) (next : List ℕ) → IsChain name names → is_among next names ≡ false → length names < 6 → IsChain name (names ++ next ∷ [])
chain_more name names next c new room = record {
  others = c.others ++ next ∷ [];
  first = ap (λ xs. xs ++ next ∷ []) c.first;
  distinct = distinct_more names next c.distinct new;
  short = omega (arith, length-append names (next ∷ []));
}
