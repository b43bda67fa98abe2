-- A put and a drop, by the bytes of paths, and what both keep.
use Rattle.std.proofs.Common.{◌≡◌, ℕ, Bool, true, false, ◌&&◌, ◌||◌, ◌==◌, cond, List, [], ◌∷◌, Option, Some, None, is_some, refl, sym, ap, ap₂, ◌∙◌, true≢false}
use Rattle.std.proofs.lemmas.Bool.{eqb-true, eqb-false, eq-eqb, ne_eqb}
use Rattle.std.specs.List.{list_any}
use Rattle.std.specs.Str.{bytes_eq}
use Rattle.gx_edit.specs.Path.{Path, components, at_front, path_eq, leads_to}
use Rattle.gx_edit.specs.PathMap.{put, dropped}
use Rattle.gx_edit.specs.PathList.{PathList, map_of}
use Rattle.gx_edit.specs.PathTexts.{leaf_at_text, is_below, without}
use Rattle.gx_edit.specs.declared.leaf.Leaf.{Leaf}
use Rattle.gx_edit.proofs.PathLemmas.{bytes_eq-is}
use Rattle.gx_edit.proofs.ComponentLemmas.{components_some}
use Rattle.gx_edit.proofs.TextLemmas.{bytes_eq-turned, same_text, map_text, map_none, by_text, and_false}

-- a path leads to another where their texts are one, or the second goes on after the first with a slash
pub leads_text : (p k : List ℕ) → leads_to (components p) (components k) ≡ (bytes_eq p k || is_below p k)
leads_text [] [] = refl
leads_text [] (b ∷ k) = go (b == 47) (components k)
  where
    go : (t : Bool) (c : Path) → leads_to ([] ∷ []) (cond t ([] ∷ c) (at_front b c)) ≡ t
    go true c = refl
    go false [] = refl
    go false (n ∷ c) = refl
leads_text (a ∷ p) [] = go (a == 47) (components p) (components_some p)
  where
    go : (t : Bool) (c : Path) → (c ≡ [] → ⊥) → leads_to (cond t ([] ∷ c) (at_front a c)) ([] ∷ []) ≡ false
    go true [] some = absurd (some refl)
    go true (n ∷ c) some = refl
    go false [] some = refl
    go false (n ∷ c) some = refl
leads_text (a ∷ p) (b ∷ k) = go (a == 47) refl (b == 47) refl (components p) (components k) (components_some p) (components_some k) (leads_text p k)
  where
    spread : (r : Bool) → (a == b) ≡ r → (((a == b) && bytes_eq p k) || ((a == b) && is_below p k)) ≡ (r && (bytes_eq p k || is_below p k))
    spread true e = ap (λ t. (t && bytes_eq p k) || (t && is_below p k)) e
    spread false e = ap (λ t. (t && bytes_eq p k) || (t && is_below p k)) e

    grouped : (s t u : Bool) → ((s && t) && u) ≡ (s && (t && u))
    grouped true t u = refl
    grouped false t u = refl

    go : (s : Bool) → (a == 47) ≡ s → (t : Bool) → (b == 47) ≡ t → (c d : Path) → (c ≡ [] → ⊥) → (d ≡ [] → ⊥) → leads_to c d ≡ (bytes_eq p k || is_below p k)
        → leads_to (cond s ([] ∷ c) (at_front a c)) (cond t ([] ∷ d) (at_front b d)) ≡ (((a == b) && bytes_eq p k) || ((a == b) && is_below p k))
    go true e true f c d some any ih = ih ∙ sym (spread true (eq-eqb a b (eqb-true a 47 e ∙ sym (eqb-true b 47 f))))
    go true e false f c [] some any ih = absurd (any refl)
    go true e false f c (m ∷ d) some any ih = sym (spread false (ne_eqb a b (λ is. eqb-false b 47 f (sym is ∙ eqb-true a 47 e))))
    go false e true f [] d some any ih = absurd (some refl)
    go false e true f (n ∷ c) d some any ih = sym (spread false (ne_eqb a b (λ is. eqb-false a 47 e (is ∙ eqb-true b 47 f))))
    go false e false f [] d some any ih = absurd (some refl)
    go false e false f (n ∷ c) [] some any ih = absurd (any refl)
    go false e false f (n ∷ c) (m ∷ d) some any ih = grouped (a == b) (bytes_eq n m) (leads_to c d) ∙ ap (λ t. (a == b) && t) ih ∙ sym (spread (a == b) refl)

below_self : (p : List ℕ) → is_below p p ≡ false
below_self [] = refl
below_self (a ∷ p) = ap (λ t. (a == a) && t) (below_self p) ∙ and_false (a == a)

put_text : (rows : PathList) (p k : List ℕ) (x : Leaf) → put (map_of rows) (components p) x (components k) ≡ cond (bytes_eq p k) (Some x) (cond ((bytes_eq p k || is_below p k) || (bytes_eq p k || is_below k p)) None (leaf_at_text rows k))
put_text rows p k x =
    ap (λ t. cond t (Some x) (cond (leads_to (components p) (components k) || leads_to (components k) (components p)) None (map_of rows (components k)))) (same_text p k ∙ bytes_eq-turned k p)
    ∙ ap₂ (λ s o. cond (bytes_eq p k) (Some x) (cond s None o))
    (ap₂ (λ s t. s || t) (leads_text p k) (leads_text k p ∙ ap (λ t. t || is_below k p) (bytes_eq-turned k p)))
    (map_text rows k)

dropped_text : (rows : PathList) (p k : List ℕ) → dropped (map_of rows) (components p) (components k) ≡ cond (bytes_eq p k || is_below p k) None (leaf_at_text rows k)
dropped_text rows p k = ap₂ (λ s o. cond s None o) (leads_text p k) (map_text rows k)

none_left : (t : Bool) (o : Option Leaf) → o ≡ None → cond t None o ≡ None
none_left true o e = refl
none_left false o e = e

put_other : (rows : PathList) (p : List ℕ) (x : Leaf) (q : Path) → ((k : List ℕ) → path_eq (components k) q ≡ false) → put (map_of rows) (components p) x q ≡ None
put_other rows p x q none =
    ap (λ t. cond t (Some x) (cond (leads_to (components p) q || leads_to q (components p)) None (map_of rows q))) (none p)
    ∙ none_left (leads_to (components p) q || leads_to q (components p)) (map_of rows q) (map_none rows q none)

dropped_other : (rows : PathList) (p : List ℕ) (q : Path) → ((k : List ℕ) → path_eq (components k) q ≡ false) → dropped (map_of rows) (components p) q ≡ None
dropped_other rows p q none = none_left (leads_to (components p) q) (map_of rows q) (map_none rows q none)

module _ (p : List ℕ) (texts : List (List ℕ)) (old : PathList) (below : (q : List ℕ) → list_any (bytes_eq q) texts ≡ (is_below p q && is_some (leaf_at_text old q))) where
  -- what lies below goes, then what lies above
  pub put_made : (mid less new : PathList) (x : Leaf) → ((q : List ℕ) → leaf_at_text mid q ≡ cond (bytes_eq p q) (Some x) (leaf_at_text old q)) → ((q : List ℕ) → leaf_at_text less q ≡ without texts (leaf_at_text mid) q)
      → ((q : List ℕ) → leaf_at_text new q ≡ cond (is_below q p) None (leaf_at_text less q)) → (q : Path) → map_of new q ≡ put (map_of old) (components p) x q
  put_made mid less new x puts gone above = by_text (λ q. map_of new q ≡ put (map_of old) (components p) x q)
      (λ k. map_text new k ∙ above k ∙ ap (cond (is_below k p) None) (gone k ∙ ap₂ (λ b o. cond b None o) (below k) (puts k)) ∙ go k (bytes_eq p k) refl (is_below p k) refl (is_below k p) refl (leaf_at_text old k) ∙ sym (put_text old p k x))
      (λ q none. map_none new q none ∙ sym (put_other old p x q none))
    where
      go : (k : List ℕ) (a : Bool) → bytes_eq p k ≡ a → (b : Bool) → is_below p k ≡ b → (c : Bool) → is_below k p ≡ c → (o : Option Leaf)
          → cond c None (cond (b && is_some o) None (cond a (Some x) o)) ≡ cond a (Some x) (cond ((a || b) || (a || c)) None o)
      go k true e false f false g o = refl
      go k true e true f c g o = absurd (true≢false (sym f ∙ ap (is_below p) (sym (bytes_eq-is p k e)) ∙ below_self p))
      go k true e false f true g o = absurd (true≢false (sym g ∙ ap (λ l. is_below l p) (sym (bytes_eq-is p k e)) ∙ below_self p))
      go k false e true f true g o = refl
      go k false e true f false g None = refl
      go k false e true f false g (Some y) = refl
      go k false e false f true g o = refl
      go k false e false f false g o = refl

  pub dropped_made : (less new : PathList) → ((q : List ℕ) → leaf_at_text less q ≡ without texts (leaf_at_text old) q) → ((q : List ℕ) → leaf_at_text new q ≡ cond (bytes_eq p q) None (leaf_at_text less q))
      → (q : Path) → map_of new q ≡ dropped (map_of old) (components p) q
  dropped_made less new gone last = by_text (λ q. map_of new q ≡ dropped (map_of old) (components p) q)
      (λ k. map_text new k ∙ last k ∙ ap (cond (bytes_eq p k) None) (gone k ∙ ap (λ b. cond b None (leaf_at_text old k)) (below k)) ∙ go (bytes_eq p k) (is_below p k) (leaf_at_text old k) ∙ sym (dropped_text old p k))
      (λ q none. map_none new q none ∙ sym (dropped_other old p q none))
    where
      go : (a b : Bool) (o : Option Leaf) → cond a None (cond (b && is_some o) None o) ≡ cond (a || b) None o
      go true b o = refl
      go false true None = refl
      go false true (Some y) = refl
      go false false o = refl
