-- Which directories edits load: those that were loaded, and those that lead to the path.
use Rattle.std.proofs.Common.{◌≡◌, ◌⊎◌, ◌∙◌, ◌&&◌, inl, inr, sym, ap, refl, subst, cond, List, [], ◌∷◌, ℕ, Bool, true, false, true≢false, Option, Some, None, is_some, IsSome, option_map}
use Rattle.std.specs.Str.{bytes_eq}
use Rattle.gx_hash.specs.declared.kind.HashKind.{HashKind}
use Rattle.gx_hash.specs.declared.oid.ObjectId.{ObjectId}
use Rattle.gx_edit.specs.Path.{Path, leads_to}
use Rattle.gx_edit.specs.StandsForMap.{IsAbove}
use Rattle.gx_edit.specs.View.{Names, View, leads, only, below, with_root, with_below, forgotten, item_in, names_for, with_tree, opened, upserted, removed}
use Rattle.gx_edit.specs.declared.editor.item.Item.{Item}
use Rattle.gx_edit.proofs.PathLemmas.{bytes_eq-is}
use Rattle.gx_edit.proofs.NamesLemmas.{itself}

-- a directory was loaded before, or leads to the path
abbrev WasLoaded : View → Path → Path → Type 0
WasLoaded v p q = IsSome (v q) ⊎ IsAbove q p

changed : (o : Option Names) (change : Names → Names) → IsSome (option_map change o) → IsSome o
changed None change there = there
changed (Some names) change there = refl

not_none : (A : Type 0) → IsSome {T = Names} None → A
not_none A there = absurd (true≢false (sym there))

-- what is taken from a root's directory is loaded nowhere else
replaced_loaded : (v : View) (n : List ℕ) (change : Names → Names) (q : Path) → IsSome (forgotten (with_root v change) n q) → IsSome (v q)
replaced_loaded v n change [] there = changed (v []) change there
replaced_loaded v n change (c ∷ q) there = go (bytes_eq n c) there
  where
    go : (t : Bool) → IsSome (cond t None (v (c ∷ q))) → IsSome (v (c ∷ q))
    go true there = not_none (IsSome (v (c ∷ q))) there
    go false there = there

module _ (hash : HashKind) (load : ObjectId → Names) where
  -- where a directory is opened, it alone is loaded besides
  opened_loaded : (v : View) (n : List ℕ) (q : Path) → IsSome (opened hash load v n q) → IsSome (v q) ⊎ (q ≡ n ∷ [])
  opened_loaded v n q there = go (is_some (v (n ∷ []))) there
    where
      w : View
      w = with_below (with_root v (with_tree hash load n)) n (only (names_for hash load (item_in (v []) n)))

      inside : (c : List ℕ) (r : Path) → n ≡ c → IsSome (only (names_for hash load (item_in (v []) n)) r) → c ∷ r ≡ n ∷ []
      inside c [] same there = ap (λ x. x ∷ []) (sym same)
      inside c (d ∷ r) same there = not_none (c ∷ d ∷ r ≡ n ∷ []) there

      below_root : (c : List ℕ) (r : Path) (t : Bool) → bytes_eq n c ≡ t → IsSome (cond t (only (names_for hash load (item_in (v []) n)) r) (v (c ∷ r))) → IsSome (v (c ∷ r)) ⊎ (c ∷ r ≡ n ∷ [])
      below_root c r true e there = inr (inside c r (bytes_eq-is n c e) there)
      below_root c r false e there = inl there

      fresh : (q : Path) → IsSome (w q) → IsSome (v q) ⊎ (q ≡ n ∷ [])
      fresh [] there = inl (changed (v []) (with_tree hash load n) there)
      fresh (c ∷ r) there = below_root c r (bytes_eq n c) refl there

      go : (t : Bool) → IsSome (cond t v w q) → IsSome (v q) ⊎ (q ≡ n ∷ [])
      go true there = inl there
      go false there = fresh q there

  longer : (n c : List ℕ) (p : Path) → IsAbove (n ∷ []) (n ∷ c ∷ p)
  longer n c p = (ap (λ t. t && true) (itself n), λ same. two n c p same)
    where
      two : (n c : List ℕ) (p : Path) → n ∷ [] ≡ n ∷ c ∷ p → ⊥
      two n c p same = cc

  above_under : (n : List ℕ) (p q : Path) → IsAbove q p → IsAbove (n ∷ q) (n ∷ p)
  above_under n p q above = (ap (λ t. t && leads_to q p) (itself n) ∙ above.0, λ same. above.1 (tails n q p same))
    where
      tails : (n : List ℕ) (q p : Path) → n ∷ q ≡ n ∷ p → q ≡ p
      tails n q p same = cc

  -- a path is followed into a directory that is opened
  deeper_loaded : (v u : View) (n c : List ℕ) (p q : Path) → ((r : Path) → IsSome (u r) → WasLoaded (below (opened hash load v n) n) (c ∷ p) r) → IsSome (with_below (opened hash load v n) n u q) → WasLoaded v (n ∷ c ∷ p) q
  deeper_loaded v u n c p [] more there = root (opened_loaded v n [] there)
    where
      root : IsSome (v []) ⊎ ([] ≡ n ∷ []) → WasLoaded v (n ∷ c ∷ p) []
      root (inl was) = inl was
      root (inr same) = inr (refl, λ e. cc)
  deeper_loaded v u n c p (b ∷ q) more there = go (bytes_eq n b) refl there
    where
      was : (k : List ℕ) (r : Path) → IsSome (v (k ∷ r)) ⊎ (k ∷ r ≡ n ∷ []) → WasLoaded v (n ∷ c ∷ p) (k ∷ r)
      was k r (inl there) = inl there
      was k r (inr same) = inr (subst (λ x. IsAbove x (n ∷ c ∷ p)) (sym same) (longer n c p))

      inside : (r : Path) → WasLoaded (below (opened hash load v n) n) (c ∷ p) r → WasLoaded v (n ∷ c ∷ p) (n ∷ r)
      inside r (inl there) = was n r (opened_loaded v n (n ∷ r) there)
      inside r (inr above) = inr (above_under n (c ∷ p) r above)

      go : (t : Bool) → bytes_eq n b ≡ t → IsSome (cond t (u q) (opened hash load v n (b ∷ q))) → WasLoaded v (n ∷ c ∷ p) (b ∷ q)
      go true e there = subst (λ k. WasLoaded v (n ∷ c ∷ p) (k ∷ q)) (bytes_eq-is n b e) (inside q (more q there))
      go false e there = was b q (opened_loaded v n (b ∷ q) there)

  pub upserted_loaded : (v : View) (p : Path) (item : Item) (q : Path) → IsSome (upserted hash load v p item q) → WasLoaded v p q
  upserted_loaded v [] item q there = inl there
  upserted_loaded v (n ∷ []) item q there = inl (replaced_loaded v n _ q there)
  upserted_loaded v (n ∷ c ∷ p) item q there =
      deeper_loaded v (upserted hash load (below (opened hash load v n) n) (c ∷ p) item) n c p q (λ r more. upserted_loaded (below (opened hash load v n) n) (c ∷ p) item r more) there

  pub removed_loaded : (v : View) (p q : Path) → IsSome (removed hash load v p q) → WasLoaded v p q
  removed_loaded v [] q there = inl there
  removed_loaded v (n ∷ []) q there = inl (replaced_loaded v n _ q there)
  removed_loaded v (n ∷ c ∷ p) q there =
      go (leads (item_in (v []) n)) there
      (λ inside. deeper_loaded v (removed hash load (below (opened hash load v n) n) (c ∷ p)) n c p q (λ r more. removed_loaded (below (opened hash load v n) n) (c ∷ p) r more) inside)
    where
      w : View
      w = with_below (opened hash load v n) n (removed hash load (below (opened hash load v n) n) (c ∷ p))

      go : (t : Bool) → IsSome (cond t w v q) → (IsSome (w q) → WasLoaded v (n ∷ c ∷ p) q) → WasLoaded v (n ∷ c ∷ p) q
      go true there deeper = deeper there
      go false there deeper = inl there
