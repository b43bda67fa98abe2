-- What a change of one loaded directory makes of the view.
use Rattle.std.proofs.Common.{◌≡◌, ◌≢◌, ◌∙◌, ◌<◌, ◌≤◌, ◌⊎◌, inl, inr, sym, ap, refl, subst, cond, List, [], ◌∷◌, ◌++◌, ℕ, zero, suc, Bool, true, false, true≢false, Option, Some, None, is_some, IsSome, option_map, length, arith}
use Rattle.std.specs.Prelude.{slice_get}
use Rattle.std.specs.FinMap.{empty}
use Rattle.std.specs.Str.{bytes_eq}
use Rattle.std.proofs.lemmas.Option.{slice_get-get_or}
use Rattle.gx_edit.specs.Path.{Path}
use Rattle.gx_edit.specs.Nodes.{Place, name_at, inner_at, onward, walk, names_there, view_at, AreLinked, view_in, with_in}
use Rattle.gx_edit.specs.View.{View, below, with_below, item_in, leads}
use Rattle.gx_edit.proofs.PathLemmas.{bytes_eq-is, bytes_eq-of}
use Rattle.gx_edit.proofs.ViewLemmas.{IsLoadedAlong}

one : {X : Type 0} (a b : X) → ◌≡◌ {A = Option X} (Some a) (Some b) → a ≡ b
one a b e = cc

-- loaded directories lead from one place to another
pub data Reaches (places : List Place) (from : ℕ) : ℕ → Type 0 where
  itself : {at : ℕ} → from ≡ at → Reaches places from at
  further : {at inner : ℕ} (n : List ℕ) → Reaches places from at → inner_at (slice_get places at) n ≡ Some inner → Reaches places from inner

module _ (a : List Place) (linked : AreLinked a) where
  pub reaches_up : (from at : ℕ) → Reaches a from at → from ≤ at
  reaches_up from at (itself e) = omega (arith, e)
  reaches_up from inner (further {at = at} n r e) = omega (arith, reaches_up from at r, (linked.within at inner n e).0)

  pub reaches_within : (from at : ℕ) → Reaches a from at → from < length a → at < length a
  reaches_within from at (itself e) less = omega (arith, e, less)
  reaches_within from inner (further {at = at} n r e) less = (linked.within at inner n e).1

  reaches_first : (from next : ℕ) (n : List ℕ) (to : ℕ) → inner_at (slice_get a from) n ≡ Some next → Reaches a next to → Reaches a from to
  reaches_first from next n to e (itself same) = further n (itself refl) (e ∙ ap Some same)
  reaches_first from next n inner e (further {at = at} m r f) = further m (reaches_first from next n at e r) f

  pub walk_reaches : (at : ℕ) (d : Path) (to : ℕ) → walk a at d ≡ Some to → Reaches a at to
  walk_reaches at [] to e = itself (one at to e)
  walk_reaches at (n ∷ d) to e = go (inner_at (slice_get a at) n) refl e (λ inner f. walk_reaches inner d to f)
    where
      go : (o : Option ℕ) → inner_at (slice_get a at) n ≡ o → onward (λ inner. walk a inner d) o ≡ Some to → ((inner : ℕ) → walk a inner d ≡ Some to → Reaches a inner to) → Reaches a at to
      go None is e ih = cc
      go (Some inner) is e ih = reaches_first at inner n to is (ih inner e)

  -- of two places that reach a third, one reaches the other
  comparable : (x y to : ℕ) → Reaches a x to → Reaches a y to → Reaches a x y ⊎ Reaches a y x
  comparable x y to (itself e) s = inr (subst (Reaches a y) (sym e) s)
  comparable x y to (further {at = at} n r e) (itself f) = inl (subst (Reaches a x) (sym f) (further n r e))
  comparable x y to (further {at = at} n r e) (further {at = other} m s f) =
      let same = linked.once at other to n m e f in
      comparable x y at r (subst (Reaches a y) (sym same.0) s)

  no_sibling : (at x y : ℕ) (n m : List ℕ) → inner_at (slice_get a at) n ≡ Some x → inner_at (slice_get a at) m ≡ Some y → n ≢ m → Reaches a x y → ⊥
  no_sibling at x y n m e f apart (itself same) = apart (linked.once at at y n m (e ∙ ap Some same) f).1
  no_sibling at x y n m e f apart (further {at = other} k r g) =
      let same = linked.once other at y k m g f in
      let up = reaches_up x at (subst (Reaches a x) same.0 r) in
      let less = (linked.within at x n e).0 in
      omega (arith, up, less)

  siblings_apart : (at x y to : ℕ) (n m : List ℕ) → inner_at (slice_get a at) n ≡ Some x → inner_at (slice_get a at) m ≡ Some y → n ≢ m → Reaches a x to → Reaches a y to → ⊥
  siblings_apart at x y to n m e f apart r s = go (comparable x y to r s)
    where
      go : Reaches a x y ⊎ Reaches a y x → ⊥
      go (inl r) = no_sibling at x y n m e f apart r
      go (inr s) = no_sibling at y x m n f e (λ same. apart (sym same)) s

  -- ---- other places that differ from these at one alone, and may be more
  module _ (b : List Place) (k : ℕ) (same : (i : ℕ) → i ≢ k → i < length a → slice_get b i ≡ slice_get a i) where
    pub kept : (i : ℕ) (q : Path) → (Reaches a i k → ⊥) → i < length a → view_at b i q ≡ view_at a i q
    kept i [] never within = ap (λ (o : Option Place). option_map (λ (p : Place). p.names) o) (same i (λ e. never (itself e)) within)
    kept i (c ∷ q) never within = ap (λ (o : Option Place). names_there b (onward (λ inner. walk b inner q) (inner_at o c))) (same i (λ e. never (itself e)) within) ∙ go (inner_at (slice_get a i) c) refl (λ inner. kept inner q)
      where
        go : (o : Option ℕ) → inner_at (slice_get a i) c ≡ o → ((inner : ℕ) → (Reaches a inner k → ⊥) → inner < length a → view_at b inner q ≡ view_at a inner q) → names_there b (onward (λ inner. walk b inner q) o) ≡ names_there a (onward (λ inner. walk a inner q) o)
        go None is ih = refl
        go (Some inner) is ih = ih inner (λ r. never (reaches_first i inner c k is r)) (linked.within i inner c is).1

    -- the view from the changed place, at a name where the same directory is loaded
    pub kept_inner : (c : List ℕ) (q : Path) → k < length a → inner_at (slice_get b k) c ≡ inner_at (slice_get a k) c → view_at b k (c ∷ q) ≡ view_at a k (c ∷ q)
    kept_inner c q within is = ap (λ (o : Option ℕ). names_there b (onward (λ inner. walk b inner q) o)) is ∙ go (inner_at (slice_get a k) c) refl
      where
        go : (o : Option ℕ) → inner_at (slice_get a k) c ≡ o → names_there b (onward (λ inner. walk b inner q) o) ≡ names_there a (onward (λ inner. walk a inner q) o)
        go None e = refl
        go (Some inner) e = kept inner q (λ r. let up = reaches_up inner k r in let less = (linked.within k inner c e).0 in omega (arith, up, less)) (linked.within k inner c e).1

    -- the view from a place above the changed one
    pub changed : (i : ℕ) (d : Path) → i < length a → walk a i d ≡ Some k → (q : Path) → view_at b i q ≡ with_in (view_at a i) d (view_at b k) q
    changed i [] within e q = ap (λ (j : ℕ). view_at b j q) (one i k e)
    changed i (n ∷ d) within e q = go (inner_at (slice_get a i) n) refl e q (λ j less f r. changed j d less f r)
      where
        go : (o : Option ℕ) → inner_at (slice_get a i) n ≡ o → onward (λ inner. walk a inner d) o ≡ Some k → (q : Path) → ((j : ℕ) → j < length a → walk a j d ≡ Some k → (r : Path) → view_at b j r ≡ with_in (view_at a j) d (view_at b k) r) → view_at b i q ≡ with_below (view_at a i) n (with_in (below (view_at a i) n) d (view_at b k)) q
        go None is e q ih = cc
        go (Some j) is e q ih =
            let reach : Reaches a j k = walk_reaches j d k e in
            let less : i < k = (let up = reaches_up j k reach in let step = (linked.within i j n is).0 in omega (arith, up, step)) in
            let own : slice_get b i ≡ slice_get a i = same i (λ f. omega (arith, f, less)) within in
            at q own reach
          where
            inside : (r : Path) → below (view_at a i) n r ≡ view_at a j r
            inside r = ap (λ (o : Option ℕ). names_there a (onward (λ inner. walk a inner r) o)) is

            at : (q : Path) → slice_get b i ≡ slice_get a i → Reaches a j k → view_at b i q ≡ with_below (view_at a i) n (with_in (below (view_at a i) n) d (view_at b k)) q
            at [] own reach = ap (λ (o : Option Place). option_map (λ (p : Place). p.names) o) own
            at (c ∷ r) own reach = by (bytes_eq n c) refl
              where
                by : (t : Bool) → bytes_eq n c ≡ t → view_at b i (c ∷ r) ≡ cond t (with_in (below (view_at a i) n) d (view_at b k) r) (view_at a i (c ∷ r))
                by true f =
                    ap (λ (o : Option Place). names_there b (onward (λ inner. walk b inner r) (inner_at o c))) own
                    ∙ ap (λ (m : List ℕ). names_there b (onward (λ inner. walk b inner r) (inner_at (slice_get a i) m))) (sym (bytes_eq-is n c f))
                    ∙ ap (λ (o : Option ℕ). names_there b (onward (λ inner. walk b inner r) o)) is
                    ∙ ih j (linked.within i j n is).1 e r
                    ∙ ap (λ (v : View). with_in v d (view_at b k) r) (λ i q. sym (inside q) i)
                by false f = ap (λ (o : Option Place). names_there b (onward (λ inner. walk b inner r) (inner_at o c))) own ∙ other (inner_at (slice_get a i) c) refl
                  where
                    other : (o : Option ℕ) → inner_at (slice_get a i) c ≡ o → names_there b (onward (λ inner. walk b inner r) o) ≡ names_there a (onward (λ inner. walk a inner r) o)
                    other None g = refl
                    other (Some x) g = kept x r (λ s. siblings_apart i j x k n c is g (λ same. true≢false (sym (bytes_eq-of n c same) ∙ f)) reach s) (linked.within i x c g).1

    -- the way to the changed place is as it was
    pub walk_kept : (i : ℕ) (d : Path) → i < length a → walk a i d ≡ Some k → walk b i d ≡ Some k
    walk_kept i [] within e = e
    walk_kept i (n ∷ d) within e = go (inner_at (slice_get a i) n) refl e (λ j. walk_kept j d)
      where
        go : (o : Option ℕ) → inner_at (slice_get a i) n ≡ o → onward (λ inner. walk a inner d) o ≡ Some k → ((j : ℕ) → j < length a → walk a j d ≡ Some k → walk b j d ≡ Some k) → onward (λ inner. walk b inner d) (inner_at (slice_get b i) n) ≡ Some k
        go None is e ih = cc
        go (Some j) is e ih =
            let reach : Reaches a j k = walk_reaches j d k e in
            let less : i < k = (let up = reaches_up j k reach in let step = (linked.within i j n is).0 in omega (arith, up, step)) in
            let own : slice_get b i ≡ slice_get a i = same i (λ f. omega (arith, f, less)) within in
            ap (λ (o : Option Place). onward (λ inner. walk b inner d) (inner_at o n)) own ∙ ap (onward (λ inner. walk b inner d)) is ∙ ih j (linked.within i j n is).1 e

  -- the directories on a walk are loaded
  pub loaded_along : (i : ℕ) (d : Path) (k : ℕ) → i < length a → walk a i d ≡ Some k → IsLoadedAlong (view_at a i) d
  loaded_along i [] k within e = tt
  loaded_along i (n ∷ d) k within e = go (inner_at (slice_get a i) n) refl e (λ j. loaded_along j d k)
    where
      has : (o : Option Place) (j : ℕ) → slice_get a j ≡ o → j < length a → IsSome (option_map (λ (p : Place). p.names) o)
      has None j is less = absurd (past a j less is)
        where
          past : (xs : List Place) (i : ℕ) → i < length xs → slice_get xs i ≡ None → ⊥
          past xs i less is = true≢false (sym (ap is_some (slice_get-get_or xs i (record { names = empty; inner = empty }) less)) ∙ ap is_some is)
      has (Some p) j is less = refl

      names_is : (o : Option Place) → item_in (option_map (λ (p : Place). p.names) o) n ≡ name_at o n
      names_is None = refl
      names_is (Some p) = refl

      go : (o : Option ℕ) → inner_at (slice_get a i) n ≡ o → onward (λ inner. walk a inner d) o ≡ Some k → ((j : ℕ) → j < length a → walk a j d ≡ Some k → IsLoadedAlong (view_at a j) d) → IsSome (view_at a i (n ∷ [])) × (leads (item_in (view_at a i []) n) ≡ true) × IsLoadedAlong (below (view_at a i) n) d
      go None is e ih = cc
      go (Some j) is e ih = (
        subst (λ (o : Option ℕ). IsSome (names_there a (onward (λ inner. walk a inner []) o))) (sym is) (has (slice_get a j) j refl (linked.within i j n is).1),
        ap leads (names_is (slice_get a i)) ∙ linked.trees i j n is,
        subst (λ (v : View). IsLoadedAlong v d) (λ i q. sym (inside q) i) (ih j (linked.within i j n is).1 e),
      )
        where
          inside : (r : Path) → below (view_at a i) n r ≡ view_at a j r
          inside r = ap (λ (o : Option ℕ). names_there a (onward (λ inner. walk a inner r) o)) is

  -- the view from a place is what the view from above has there
  pub there : (i : ℕ) (d : Path) (k : ℕ) → walk a i d ≡ Some k → view_in (view_at a i) d ≡ view_at a k
  there i [] k e = ap (view_at a) (one i k e)
  there i (n ∷ d) k e = go (inner_at (slice_get a i) n) refl e (λ j. there j d k)
    where
      go : (o : Option ℕ) → inner_at (slice_get a i) n ≡ o → onward (λ inner. walk a inner d) o ≡ Some k → ((j : ℕ) → walk a j d ≡ Some k → view_in (view_at a j) d ≡ view_at a k) → view_in (below (view_at a i) n) d ≡ view_at a k
      go None is e ih = cc
      go (Some j) is e ih = ap (λ (v : View). view_in v d) (λ i q. inside q i) ∙ ih j e
        where
          inside : (r : Path) → below (view_at a i) n r ≡ view_at a j r
          inside r = ap (λ (o : Option ℕ). names_there a (onward (λ inner. walk a inner r) o)) is

-- one step further
pub walk_more : (a : List Place) (i : ℕ) (d : Path) (j k : ℕ) (n : List ℕ) → walk a i d ≡ Some j → inner_at (slice_get a j) n ≡ Some k → walk a i (d ++ n ∷ []) ≡ Some k
walk_more a i [] j k n e f = ap (onward (λ inner. walk a inner [])) (ap (λ x. inner_at (slice_get a x) n) (one i j e) ∙ f)
walk_more a i (m ∷ d) j k n e f = go (inner_at (slice_get a i) m) e (λ x g. walk_more a x d j k n g f)
  where
    go : (o : Option ℕ) → onward (λ inner. walk a inner d) o ≡ Some j → ((x : ℕ) → walk a x d ≡ Some j → walk a x (d ++ n ∷ []) ≡ Some k) → onward (λ inner. walk a inner (d ++ n ∷ [])) o ≡ Some k
    go None e ih = cc
    go (Some x) e ih = ih x e

pub place_at : (a : List Place) (i : ℕ) → i < length a → (p : Place) × (slice_get a i ≡ Some p)
place_at [] i less = absurd (omega (arith, less))
place_at (p ∷ a) zero less = (p, refl)
place_at (p ∷ a) (suc i) less = place_at a i (omega (arith, less))
