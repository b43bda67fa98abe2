-- A view that stands for a map, seen as its root and the views below each of its names.
use Rattle.std.proofs.Common.{◌≡◌, ◌∙◌, sym, ap, refl, subst, List, [], ◌∷◌, ◌++◌, ℕ, Bool, true, false, true≢false, Option, Some, None, is_some, IsSome}
use Rattle.std.specs.Str.{bytes_eq}
use Rattle.std.specs.FinMap.{get}
use Rattle.gx_hash.specs.declared.kind.HashKind.{HashKind}
use Rattle.gx_store.specs.Content.{Content}
use Rattle.gx_edit.specs.Path.{Path}
use Rattle.gx_edit.specs.PathMap.{PathMap}
use Rattle.gx_edit.specs.View.{Names, View, below}
use Rattle.gx_edit.specs.StandsForMap.{HoldsAt, StandsForMap, map_below}
use Rattle.gx_edit.specs.Written.{inside}
use Rattle.gx_edit.specs.declared.editor.item.Item.{Item}
use Rattle.gx_edit.proofs.PathLemmas.{bytes_eq-is}

pub same_names : (a b : Names) → ◌≡◌ {A = Option Names} (Some a) (Some b) → a ≡ b
same_names a b e = cc

module _ (hash : HashKind) (content : Content) where
  -- where a directory is loaded, no leaf stands
  pub no_leaf_above : (o : Option Names) (item : Option Item) (m : PathMap) → HoldsAt hash content o item m → IsSome o → m [] ≡ None
  no_leaf_above None item m h there = absurd (true≢false (sym there))
  no_leaf_above (Some names) None m h there = absurd h
  no_leaf_above (Some names) (Some item) m h there = h.1

  -- the view of a directory that is loaded in the root
  pub stands_below : (v : View) (m : PathMap) (n : List ℕ) → StandsForMap hash content v m → IsSome (v (n ∷ [])) → m (n ∷ []) ≡ None → StandsForMap hash content (below v n) (map_below m n)
  stands_below v m n s there no_leaf = record {
    root = there;
    closed = λ d e none. s.closed (n ∷ d) e none;
    no_root = no_leaf;
    holds = λ d names is c. s.holds (n ∷ d) names is c;
  }

  pub root_names : (v : View) (m : PathMap) → StandsForMap hash content v m → (names : Names) × (v [] ≡ Some names)
  root_names v m s = go (v []) refl
    where
      go : (o : Option Names) → v [] ≡ o → (names : Names) × (v [] ≡ Some names)
      go None is = absurd (true≢false (sym s.root ∙ ap is_some is))
      go (Some names) is = (names, is)

  -- the same, without the premise on leaves
  pub stands_at : (v : View) (m : PathMap) (n : List ℕ) → StandsForMap hash content v m → IsSome (v (n ∷ [])) → StandsForMap hash content (below v n) (map_below m n)
  stands_at v m n s there =
      let r = root_names v m s in
      stands_below v m n s there (no_leaf_above (v (n ∷ [])) (get r.0 n) (map_below m n) (s.holds [] r.0 r.1 n) there)

  -- directories above a loaded one are loaded
  above_loaded : (v : View) (n : List ℕ) (d : Path) (m : PathMap) → StandsForMap hash content v m → IsSome (v (n ∷ d)) → IsSome (v (n ∷ []))
  above_loaded v n d m s there = go (v (n ∷ [])) refl
    where
      go : (o : Option Names) → v (n ∷ []) ≡ o → IsSome (v (n ∷ []))
      go None is = absurd (true≢false (sym there ∙ ap is_some (s.closed (n ∷ []) d is)))
      go (Some names) is = ap is_some is

  pub stands_inside : (v : View) (m : PathMap) (d : Path) → StandsForMap hash content v m → IsSome (v d) → StandsForMap hash content (inside v d) (λ q. m (d ++ q))
  stands_inside v m [] s there = s
  stands_inside v m (n ∷ d) s there = stands_inside (below v n) (map_below m n) d (stands_at v m n s (above_loaded v n d m s there)) there

  -- ---- a view put together

  pub record Parts (v : View) (m : PathMap) (names : Names) : Type 0 where
    pub root : v [] ≡ Some names
    pub no_root : m [] ≡ None
    pub at : (n : List ℕ) → HoldsAt hash content (v (n ∷ [])) (get names n) (map_below m n)
    pub inner : (n : List ℕ) → IsSome (v (n ∷ [])) → StandsForMap hash content (below v n) (map_below m n)
    pub closed : (n : List ℕ) (e : Path) → v (n ∷ []) ≡ None → v (n ∷ e) ≡ None

  pub from_parts : (v : View) (m : PathMap) (names : Names) → Parts v m names → StandsForMap hash content v m
  from_parts v m names parts = record { root = ap is_some parts.root; closed = closed; no_root = parts.no_root; holds = holds }
    where
      closed : (d e : Path) → v d ≡ None → v (d ++ e) ≡ None
      closed [] e none = absurd (true≢false (sym (ap is_some parts.root) ∙ ap is_some none))
      closed (c ∷ d) e none = go (v (c ∷ [])) refl
        where
          go : (o : Option Names) → v (c ∷ []) ≡ o → v (c ∷ d ++ e) ≡ None
          go None is = parts.closed c (d ++ e) is
          go (Some x) is = (parts.inner c (ap is_some is)).closed d e none

      holds : (d : Path) (x : Names) → v d ≡ Some x → (n : List ℕ) → HoldsAt hash content (v (d ++ n ∷ [])) (get x n) (λ q. m (d ++ n ∷ q))
      holds [] x is n = subst (λ (y : Names). HoldsAt hash content (v (n ∷ [])) (get y n) (map_below m n)) (same_names names x (sym parts.root ∙ is)) (parts.at n)
      holds (c ∷ d) x is n = go (v (c ∷ [])) refl
        where
          go : (o : Option Names) → v (c ∷ []) ≡ o → HoldsAt hash content (v (c ∷ d ++ n ∷ [])) (get x n) (λ q. m (c ∷ d ++ n ∷ q))
          go None top = absurd (true≢false (sym (ap is_some is) ∙ ap is_some (parts.closed c d top)))
          go (Some y) top = (parts.inner c (ap is_some top)).holds d x is n

  -- ---- a change at one name

  -- one view for one map, and another for another; they differ at one name alone
  pub record Swap (v w : View) (m k : PathMap) (n : List ℕ) (old new : Names) : Type 0 where
    pub old_is : v [] ≡ Some old
    pub new_is : w [] ≡ Some new
    pub no_root : k [] ≡ None
    pub names : (c : List ℕ) → bytes_eq n c ≡ false → get new c ≡ get old c
    pub others : (c : List ℕ) (q : Path) → bytes_eq n c ≡ false → w (c ∷ q) ≡ v (c ∷ q)
    pub leaves : (c : List ℕ) (q : Path) → bytes_eq n c ≡ false → k (c ∷ q) ≡ m (c ∷ q)
    pub at : HoldsAt hash content (w (n ∷ [])) (get new n) (map_below k n)
    pub inner : IsSome (w (n ∷ [])) → StandsForMap hash content (below w n) (map_below k n)
    pub closed : (e : Path) → w (n ∷ []) ≡ None → w (n ∷ e) ≡ None

  pub swapped : (v w : View) (m k : PathMap) (n : List ℕ) (old new : Names) → StandsForMap hash content v m → Swap v w m k n old new → StandsForMap hash content w k
  swapped v w m k n old new s x = from_parts w k new (record { root = x.new_is; no_root = x.no_root; at = at; inner = inner; closed = closed })
    where
      views : (c : List ℕ) → bytes_eq n c ≡ false → below w c ≡ below v c
      views c other = λ i q. x.others c q other i

      maps : (c : List ℕ) → bytes_eq n c ≡ false → map_below k c ≡ map_below m c
      maps c other = λ i q. x.leaves c q other i

      at_other : (c : List ℕ) → bytes_eq n c ≡ false → HoldsAt hash content (w (c ∷ [])) (get new c) (map_below k c)
      at_other c other = subst (λ (o : Option Names). HoldsAt hash content o (get new c) (map_below k c)) (sym (x.others c [] other))
          (subst (λ (o : Option Item). HoldsAt hash content (v (c ∷ [])) o (map_below k c)) (sym (x.names c other))
          (subst (λ (f : PathMap). HoldsAt hash content (v (c ∷ [])) (get old c) f) (sym (maps c other)) (s.holds [] old x.old_is c)))

      inner_other : (c : List ℕ) → bytes_eq n c ≡ false → IsSome (w (c ∷ [])) → StandsForMap hash content (below w c) (map_below k c)
      inner_other c other there =
          let was : IsSome (v (c ∷ [])) = subst (λ (o : Option Names). IsSome o) (x.others c [] other) there in
          subst (λ (u : View). StandsForMap hash content u (map_below k c)) (sym (views c other))
          (subst (λ (f : PathMap). StandsForMap hash content (below v c) f) (sym (maps c other)) (stands_at v m c s was))

      at : (c : List ℕ) → HoldsAt hash content (w (c ∷ [])) (get new c) (map_below k c)
      at c = go (bytes_eq n c) refl
        where
          go : (t : Bool) → bytes_eq n c ≡ t → HoldsAt hash content (w (c ∷ [])) (get new c) (map_below k c)
          go true e = subst (λ (b : List ℕ). HoldsAt hash content (w (b ∷ [])) (get new b) (map_below k b)) (bytes_eq-is n c e) x.at
          go false e = at_other c e

      inner : (c : List ℕ) → IsSome (w (c ∷ [])) → StandsForMap hash content (below w c) (map_below k c)
      inner c = go (bytes_eq n c) refl
        where
          go : (t : Bool) → bytes_eq n c ≡ t → IsSome (w (c ∷ [])) → StandsForMap hash content (below w c) (map_below k c)
          go true e = subst (λ (b : List ℕ). IsSome (w (b ∷ [])) → StandsForMap hash content (below w b) (map_below k b)) (bytes_eq-is n c e) x.inner
          go false e = inner_other c e

      closed : (c : List ℕ) (e : Path) → w (c ∷ []) ≡ None → w (c ∷ e) ≡ None
      closed c e = go (bytes_eq n c) refl
        where
          go : (t : Bool) → bytes_eq n c ≡ t → w (c ∷ []) ≡ None → w (c ∷ e) ≡ None
          go true same = subst (λ (b : List ℕ). w (b ∷ []) ≡ None → w (b ∷ e) ≡ None) (bytes_eq-is n c same) (x.closed e)
          go false other = λ none. x.others c e other ∙ s.closed (c ∷ []) e (sym (x.others c [] other) ∙ none)
