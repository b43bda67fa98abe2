-- Views below a path, and edits that go on there.
use Rattle.std.proofs.Common.{◌≡◌, ◌∙◌, sym, ap, refl, cond, List, [], ◌∷◌, ◌++◌, ℕ, Bool, true, false, IsSome}
use Rattle.std.specs.Str.{bytes_eq}
use Rattle.gx_hash.specs.declared.kind.HashKind.{HashKind}
use Rattle.gx_hash.specs.declared.oid.ObjectId.{ObjectId}
use Rattle.gx_edit.specs.Path.{Path}
use Rattle.gx_edit.specs.Nodes.{view_in, with_in, IsLedAlong}
use Rattle.gx_edit.specs.View.{Names, View, below, with_below, with_root, with_tree, only, names_for, leads, item_in, opened, opened_along, upserted, removed}
use Rattle.gx_edit.specs.declared.editor.item.Item.{Item}
use Rattle.gx_edit.proofs.PathLemmas.{bytes_eq-is, bytes_eq-of}

pub below_put : (v : View) (n : List ℕ) (w : View) → below (with_below v n w) n ≡ w
below_put v n w = λ i q. ap (λ t. cond t (w q) (v (n ∷ q))) (bytes_eq-of n n refl) i

pub put_again : (v : View) (n : List ℕ) (w u : View) → with_below (with_below v n w) n u ≡ with_below v n u
put_again v n w u = λ i q. go q i
  where
    go : (q : Path) → with_below (with_below v n w) n u q ≡ with_below v n u q
    go [] = refl
    go (c ∷ q) = at (bytes_eq n c)
      where
        at : (t : Bool) → cond t (u q) (cond t (w q) (v (c ∷ q))) ≡ cond t (u q) (v (c ∷ q))
        at true = refl
        at false = refl

pub put_same : (v : View) (n : List ℕ) → with_below v n (below v n) ≡ v
put_same v n = λ i q. go q i
  where
    go : (q : Path) → with_below v n (below v n) q ≡ v q
    go [] = refl
    go (c ∷ q) = at (bytes_eq n c) refl
      where
        at : (t : Bool) → bytes_eq n c ≡ t → cond t (v (n ∷ q)) (v (c ∷ q)) ≡ v (c ∷ q)
        at true e = ap (λ (m : List ℕ). v (m ∷ q)) (bytes_eq-is n c e)
        at false e = refl

-- a change below a change
pub with_in-deeper : (v : View) (d : Path) (u : View) (n : List ℕ) (w : View) → with_in (with_in v d u) (d ++ n ∷ []) w ≡ with_in v d (with_below u n w)
with_in-deeper v [] u n w = refl
with_in-deeper v (m ∷ d) u n w =
    ap (λ (x : View). with_below (with_below v m (with_in (below v m) d u)) m (with_in x (d ++ n ∷ []) w)) (below_put v m (with_in (below v m) d u))
    ∙ put_again v m (with_in (below v m) d u) (with_in (with_in (below v m) d u) (d ++ n ∷ []) w)
    ∙ ap (with_below v m) (with_in-deeper (below v m) d u n w)

-- each directory on the path is loaded, and is a directory's item in the one above
abbrev pub IsLoadedAlong : View → Path → Type 0
IsLoadedAlong v [] = Unit {0}
IsLoadedAlong v (n ∷ d) = IsSome (v (n ∷ [])) × (leads (item_in (v []) n) ≡ true) × IsLoadedAlong (below v n) d

module _ (hash : HashKind) (load : ObjectId → Names) where
  pub opened_same : (v : View) (n : List ℕ) → IsSome (v (n ∷ [])) → opened hash load v n ≡ v
  opened_same v n there = ap (λ t. cond t v (with_below (with_root v (with_tree hash load n)) n (only (names_for hash load (item_in (v []) n))))) there

  -- an edit goes on in a directory that is loaded
  pub upserted_in : (v : View) (d : Path) (c : List ℕ) (p : Path) (item : Item) → IsLoadedAlong v d → upserted hash load v (d ++ c ∷ p) item ≡ with_in v d (upserted hash load (view_in v d) (c ∷ p) item)
  upserted_in v [] c p item there = refl
  upserted_in v (n ∷ []) c p item there = ap (λ (w : View). with_below w n (upserted hash load (below w n) (c ∷ p) item)) (opened_same v n there.0)
  upserted_in v (n ∷ m ∷ d) c p item there =
      ap (λ (w : View). with_below w n (upserted hash load (below w n) (m ∷ d ++ c ∷ p) item)) (opened_same v n there.0)
      ∙ ap (with_below v n) (upserted_in (below v n) (m ∷ d) c p item there.2)

  pub removed_in : (v : View) (d : Path) (c : List ℕ) (p : Path) → IsLoadedAlong v d → removed hash load v (d ++ c ∷ p) ≡ with_in v d (removed hash load (view_in v d) (c ∷ p))
  removed_in v [] c p there = refl
  removed_in v (n ∷ []) c p there =
      ap (λ t. cond t (with_below (opened hash load v n) n (removed hash load (below (opened hash load v n) n) (c ∷ p))) v) there.1
      ∙ ap (λ (w : View). with_below w n (removed hash load (below w n) (c ∷ p))) (opened_same v n there.0)
  removed_in v (n ∷ m ∷ d) c p there =
      ap (λ t. cond t (with_below (opened hash load v n) n (removed hash load (below (opened hash load v n) n) (m ∷ d ++ c ∷ p))) v) there.1
      ∙ ap (λ (w : View). with_below w n (removed hash load (below w n) (m ∷ d ++ c ∷ p))) (opened_same v n there.0)
      ∙ ap (with_below v n) (removed_in (below v n) (m ∷ d) c p there.2)

  -- the next directory on a path is opened
  pub opened_deeper : (v : View) (d : Path) (n : List ℕ) → opened_along hash load v (d ++ n ∷ []) ≡ with_in (opened_along hash load v d) d (opened hash load (view_in (opened_along hash load v d) d) n)
  opened_deeper v [] n = put_same (opened hash load v n) n
  opened_deeper v (m ∷ d) n =
      let u : View = below (opened hash load v m) m in
      let z : View = opened_along hash load u d in
      let w : View = with_below (opened hash load v m) m z in
      ap (with_below (opened hash load v m) m) (opened_deeper u d n)
      ∙ sym (put_again (opened hash load v m) m z (with_in z d (opened hash load (view_in z d) n)))
      ∙ ap (λ (x : View). with_below w m (with_in x d (opened hash load (view_in x d) n))) (sym (below_put (opened hash load v m) m z))

  pub upserted_along : (v : View) (d : Path) (n : List ℕ) (item : Item) → upserted hash load v (d ++ n ∷ []) item ≡ with_in (opened_along hash load v d) d (upserted hash load (view_in (opened_along hash load v d) d) (n ∷ []) item)
  upserted_along v [] n item = refl
  upserted_along v (m ∷ d) n item = first d ∙ ap (with_below (opened hash load v m) m) (upserted_along u d n item)
      ∙ sym (put_again (opened hash load v m) m z (with_in z d (upserted hash load (view_in z d) (n ∷ []) item)))
      ∙ ap (λ (x : View). with_below w m (with_in x d (upserted hash load (view_in x d) (n ∷ []) item))) (sym (below_put (opened hash load v m) m z))
    where
      u : View
      u = below (opened hash load v m) m

      z : View
      z = opened_along hash load u d

      w : View
      w = with_below (opened hash load v m) m z

      first : (d : Path) → upserted hash load v (m ∷ d ++ n ∷ []) item ≡ with_below (opened hash load v m) m (upserted hash load u (d ++ n ∷ []) item)
      first [] = refl
      first (k ∷ d) = refl

  pub led_further : (v : View) (d : Path) (n : List ℕ) → IsLedAlong hash load v d → leads (item_in (view_in (opened_along hash load v d) d []) n) ≡ true → IsLedAlong hash load v (d ++ n ∷ [])
  led_further v [] n led one = (one, tt)
  led_further v (m ∷ d) n led one =
      let u : View = below (opened hash load v m) m in
      let z : View = opened_along hash load u d in
      (led.0, led_further u d n led.1 (ap (λ (x : View). leads (item_in (view_in x d []) n)) (sym (below_put (opened hash load v m) m z)) ∙ one))

  pub next_removed : (v : View) (m c : List ℕ) (p : Path) → leads (item_in (v []) m) ≡ true → removed hash load v (m ∷ c ∷ p) ≡ with_below (opened hash load v m) m (removed hash load (below (opened hash load v m) m) (c ∷ p))
  next_removed v m c p led = ap (λ t. cond t (with_below (opened hash load v m) m (removed hash load (below (opened hash load v m) m) (c ∷ p))) v) led

  -- a removal goes on as far as there are directories
  pub removed_along : (v : View) (d : Path) (c : List ℕ) (p : Path) → IsLedAlong hash load v d → removed hash load v (d ++ c ∷ p) ≡ with_in (opened_along hash load v d) d (removed hash load (view_in (opened_along hash load v d) d) (c ∷ p))
  removed_along v [] c p led = refl
  removed_along v (m ∷ d) c p led = first d ∙ ap (with_below (opened hash load v m) m) (removed_along u d c p led.1)
      ∙ sym (put_again (opened hash load v m) m z (with_in z d (removed hash load (view_in z d) (c ∷ p))))
      ∙ ap (λ (x : View). with_below w m (with_in x d (removed hash load (view_in x d) (c ∷ p)))) (sym (below_put (opened hash load v m) m z))
    where
      u : View
      u = below (opened hash load v m) m

      z : View
      z = opened_along hash load u d

      w : View
      w = with_below (opened hash load v m) m z

      first : (d : Path) → removed hash load v (m ∷ d ++ c ∷ p) ≡ with_below (opened hash load v m) m (removed hash load u (d ++ c ∷ p))
      first [] = next_removed v m c p led.0
      first (k ∷ d) = next_removed v m k (d ++ c ∷ p) led.0

  with_in-same : (v : View) (d : Path) → with_in v d (view_in v d) ≡ v
  with_in-same v [] = refl
  with_in-same v (m ∷ d) = ap (with_below v m) (with_in-same (below v m) d) ∙ put_same v m

  -- and stops where there is none
  pub removed_stops : (v : View) (d : Path) (n c : List ℕ) (p : Path) → IsLedAlong hash load v d → leads (item_in (view_in (opened_along hash load v d) d []) n) ≡ false → removed hash load v (d ++ n ∷ c ∷ p) ≡ opened_along hash load v d
  removed_stops v d n c p led none =
      let x : View = opened_along hash load v d in
      let y : View = view_in x d in
      removed_along v d n (c ∷ p) led
      ∙ ap (λ t. with_in x d (cond t (with_below (opened hash load y n) n (removed hash load (below (opened hash load y n) n) (c ∷ p))) y)) none
      ∙ with_in-same x d
