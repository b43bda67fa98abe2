-- What is planned of an editor's loaded directories is the output of its view.
use Rattle.std.proofs.Common.{◌≡◌, ◌≢◌, ◌∙◌, ◌<◌, ◌≤◌, ◌⊎◌, inl, inr, sym, ap, refl, subst, List, [], ◌∷◌, ℕ, Bool, true, false, true≢false, ◌&&◌, Option, Some, None, IsSome, Contains, map, arith}
use Rattle.std.specs.Prelude.{slice_get}
use Rattle.std.specs.Str.{bytes_eq}
use Rattle.std.specs.List.{AllByRecursion, AllZip, flat_map}
use Rattle.gx_hash.specs.declared.kind.HashKind.{HashKind}
use Rattle.gx_object.specs.declared.tree.Entry.{Entry}
use Rattle.gx_edit.specs.EditorPlan.{IsReached, Falls, IsPlannedFrom}
use Rattle.gx_edit.specs.Path.{Path, leads_to}
use Rattle.gx_edit.specs.Output.{Output}
use Rattle.gx_edit.specs.Nodes.{Place, AreLinked, inner_at, onward, walk, names_there, view_at, view_in}
use Rattle.gx_edit.specs.View.{View, below}
use Rattle.gx_edit.specs.Written.{IsWritten, IsWrittenAt, IsLeftOut, InnerFirst, IsOutputOfView, inside, tree_with, id_with}
use Rattle.gx_edit.proofs.NodeLemmas.{Reaches, itself, further, reaches_up, walk_reaches, there}
use Rattle.gx_edit.proofs.PathLemmas.{bytes_eq-is, bytes_eq-of}
use Rattle.gx_edit.proofs.WrittenLists.{first_or_later, none_in, in_first, in_later}

one : {X : Type 0} (a b : X) → ◌≡◌ {A = Option X} (Some a) (Some b) → a ≡ b
one a b e = cc

-- the view of the directory at a path is that from the directory
inside_in : (v : View) (d : Path) → inside v d ≡ view_in v d
inside_in v [] = refl
inside_in v (n ∷ d) = inside_in (below v n) d

module _ (a : List Place) (links : AreLinked a) where
  -- of two places that reach a third, one reaches the other
  comparable : (x y to : ℕ) → Reaches a x to → Reaches a y to → Reaches a x y ⊎ Reaches a y x
  comparable x y to (itself e) s = inr (subst (Reaches a y) (sym e) s)
  comparable x y to (further {at = at} n r e) (itself f) = inl (subst (Reaches a x) (sym f) (further n r e))
  comparable x y to (further {at = at} n r e) (further {at = other} m s f) =
      let same = links.once at other to n m e f in
      comparable x y at r (subst (Reaches a y) (sym same.0) s)

  no_sibling : (at x y : ℕ) (n m : List ℕ) → inner_at (slice_get a at) n ≡ Some x → inner_at (slice_get a at) m ≡ Some y → n ≢ m → Reaches a x y → ⊥
  no_sibling at x y n m e f apart (itself same) = apart (links.once at at y n m (e ∙ ap Some same) f).1
  no_sibling at x y n m e f apart (further {at = other} k r g) =
      let same = links.once other at y k m g f in
      let up = reaches_up a links x at (subst (Reaches a x) same.0 r) in
      let less = (links.within at x n e).0 in
      omega (arith, up, less)

  siblings_apart : (at x y to : ℕ) (n m : List ℕ) → inner_at (slice_get a at) n ≡ Some x → inner_at (slice_get a at) m ≡ Some y → n ≢ m → Reaches a x to → Reaches a y to → ⊥
  siblings_apart at x y to n m e f apart r s = go (comparable x y to r s)
    where
      go : Reaches a x y ⊎ Reaches a y x → ⊥
      go (inl r) = no_sibling at x y n m e f apart r
      go (inr s) = no_sibling at y x m n f e (λ same. apart (sym same)) s

  -- a walk that leaves a place does not come back
  longer : (at : ℕ) (n : List ℕ) (q : Path) (to : ℕ) → walk a at (n ∷ q) ≡ Some to → at < to
  longer at n q to e = go (inner_at (slice_get a at) n) refl e
    where
      go : (o : Option ℕ) → inner_at (slice_get a at) n ≡ o → onward (λ inner. walk a inner q) o ≡ Some to → at < to
      go None is e = cc
      go (Some inner) is e =
          let up = reaches_up a links inner to (walk_reaches a links inner q to e) in
          let step = (links.within at inner n is).0 in
          omega (arith, up, step)

  -- one walk leads to a place
  walk_once : (at to : ℕ) (d e : Path) → walk a at d ≡ Some to → walk a at e ≡ Some to → d ≡ e
  walk_once at to [] [] f g = refl
  walk_once at to [] (m ∷ e) f g = absurd (let up = longer at m e to g in let same = one at to f in omega (arith, up, same))
  walk_once at to (n ∷ d) [] f g = absurd (let up = longer at n d to f in let same = one at to g in omega (arith, up, same))
  walk_once at to (n ∷ d) (m ∷ e) f g = go (inner_at (slice_get a at) n) refl f (inner_at (slice_get a at) m) refl g (bytes_eq n m) refl (λ x. walk_once x to d e)
    where
      go : (o : Option ℕ) → inner_at (slice_get a at) n ≡ o → onward (λ inner. walk a inner d) o ≡ Some to
          → (p : Option ℕ) → inner_at (slice_get a at) m ≡ p → onward (λ inner. walk a inner e) p ≡ Some to
          → (t : Bool) → bytes_eq n m ≡ t → ((x : ℕ) → walk a x d ≡ Some to → walk a x e ≡ Some to → d ≡ e) → n ∷ d ≡ m ∷ e
      go None is f p ip g t same ih = cc
      go (Some x) is f None ip g t same ih = cc
      go (Some x) is f (Some y) ip g true same ih =
          let names : n ≡ m = bytes_eq-is n m same in
          let places : x ≡ y = one x y (sym is ∙ ap (inner_at (slice_get a at)) names ∙ ip) in
          let rest : d ≡ e = ih x f (subst (λ z. walk a z e ≡ Some to) (sym places) g) in
          ap (λ (k : List ℕ). k ∷ d) names ∙ ap (λ (q : Path). m ∷ q) rest
      go (Some x) is f (Some y) ip g false same ih =
          absurd (siblings_apart at x y to n m is ip (λ e. true≢false (sym (bytes_eq-of n m e) ∙ same)) (walk_reaches a links x d to f) (walk_reaches a links y e to g))

  -- a path that leads to another goes to a place before
  walk_before : (at i j : ℕ) (p q : Path) → walk a at p ≡ Some i → walk a at q ≡ Some j → leads_to p q ≡ true → i ≤ j
  walk_before at i j [] q f g leads = let up = reaches_up a links at j (walk_reaches a links at q j g) in let same = one at i f in omega (arith, up, same)
  walk_before at i j (n ∷ p) [] f g leads = cc
  walk_before at i j (n ∷ p) (m ∷ q) f g leads = by (bytes_eq n m) refl leads (λ x. walk_before x i j p q)
    where
      by : (t : Bool) → bytes_eq n m ≡ t → (t && leads_to p q) ≡ true → ((x : ℕ) → walk a x p ≡ Some i → walk a x q ≡ Some j → leads_to p q ≡ true → i ≤ j) → i ≤ j
      by false same leads ih = cc
      by true same leads ih = go (inner_at (slice_get a at) n) refl f
          (subst (λ (k : List ℕ). onward (λ inner. walk a inner q) (inner_at (slice_get a at) k) ≡ Some j) (sym (bytes_eq-is n m same)) g)
        where
          go : (o : Option ℕ) → inner_at (slice_get a at) n ≡ o → onward (λ inner. walk a inner p) o ≡ Some i → onward (λ inner. walk a inner q) (inner_at (slice_get a at) n) ≡ Some j → i ≤ j
          go None is f g = cc
          go (Some x) is f g = ih x f (subst (λ (o : Option ℕ). onward (λ inner. walk a inner q) o ≡ Some j) is g) leads

  -- ---- the paths of the places that have trees

  module _ (hash : HashKind) (listed : ℕ → List Entry) (order : List ℕ) (planned : IsPlannedFrom hash a 0 listed order) where
    abbrev AreAt : List ℕ → List Path → Type 0
    AreAt places paths = AllZip (λ i p. walk a 0 p ≡ Some i) places paths

    abbrev HasTree : ℕ → Type 0
    HasTree i = IsReached a i × ((i ≡ 0) ⊎ (listed i ≢ []))

    paths_of : (places : List ℕ) → AllByRecursion HasTree places → (paths : List Path) × AreAt places paths
    paths_of [] each = ([], tt)
    paths_of (i ∷ places) each = let more = paths_of places each.1 in (each.0.0.0 ∷ more.0, (each.0.0.1, more.1))

    -- what is written of the directory at a path is what is planned of its place
    written_at : (i : ℕ) (p : Path) → walk a 0 p ≡ Some i → IsWritten hash (inside (view_at a 0) p) (listed i)
    written_at i p at = subst (λ (v : View). IsWritten hash v (listed i)) (sym (inside_in (view_at a 0) p ∙ there a links 0 p i at)) (planned.written i (omega arith) (p, at))

    no_path : (i : ℕ) (p : Path) → walk a 0 p ≡ Some i → i ≡ 0 → p ≡ []
    no_path i p at is = walk_once 0 i p [] at (ap Some (sym is))

    tree_at : (i : ℕ) (p : Path) → walk a 0 p ≡ Some i → (i ≡ 0) ⊎ (listed i ≢ []) → (p ≡ []) ⊎ (listed i ≢ [])
    tree_at i p at (inl root) = inl (no_path i p at root)
    tree_at i p at (inr some) = inr some

    each_at : (places : List ℕ) (paths : List Path) → AllByRecursion HasTree places → AreAt places paths → AllZip (IsWrittenAt hash (view_at a 0)) paths (map listed places)
    each_at [] [] each at = tt
    each_at [] (p ∷ paths) each at = absurd at
    each_at (i ∷ places) [] each at = absurd at
    each_at (i ∷ places) (p ∷ paths) each at = (record { written = written_at i p at.0; tree = tree_at i p at.0 each.0.1 }, each_at places paths each.1 at.1)

    -- a path to a place leads to none before it
    leads_on : (i : ℕ) (p : Path) (places : List ℕ) (paths : List Path) → walk a 0 p ≡ Some i → AllByRecursion (λ j. j < i) places → AreAt places paths → AllByRecursion (λ q. leads_to p q ≡ false) paths
    leads_on i p [] [] f below at = tt
    leads_on i p [] (q ∷ paths) f below at = absurd at
    leads_on i p (j ∷ places) [] f below at = absurd at
    leads_on i p (j ∷ places) (q ∷ paths) f below at = (go (leads_to p q) refl, leads_on i p places paths f below.1 at.1)
      where
        go : (t : Bool) → leads_to p q ≡ t → t ≡ false
        go false is = refl
        go true is = absurd (let up = walk_before 0 i j p q f at.0 is in let less = below.0 in omega (arith, up, less))

    first_at : (places : List ℕ) (paths : List Path) → Falls places → AreAt places paths → InnerFirst paths
    first_at [] [] falls at = tt
    first_at [] (p ∷ paths) falls at = absurd at
    first_at (i ∷ places) [] falls at = absurd at
    first_at (i ∷ places) (p ∷ paths) falls at = (leads_on i p places paths at.0 falls.0 at.1, first_at places paths falls.1 at.1)

    path_among : (i : ℕ) (p : Path) (places : List ℕ) (paths : List Path) → walk a 0 p ≡ Some i → AreAt places paths → Contains places i → Contains paths p
    path_among i p [] paths f at h = absurd (none_in i h)
    path_among i p (j ∷ places) [] f at h = absurd at
    path_among i p (j ∷ places) (q ∷ paths) f at h = go (first_or_later j i places h) (λ more. path_among i p places paths f at.1 more)
      where
        go : (j ≡ i) ⊎ Contains places i → (Contains places i → Contains paths p) → Contains (q ∷ paths) p
        go (inl is) later = subst (Contains (q ∷ paths)) (walk_once 0 j q p at.0 (f ∙ ap Some (sym is))) (in_first q paths)
        go (inr more) later = in_later q p paths (later more)

    -- a directory that is loaded stands at a place
    place_of : (p : Path) → IsSome (view_at a 0 p) → (i : ℕ) × (walk a 0 p ≡ Some i)
    place_of p some = go (walk a 0 p) refl some
      where
        go : (o : Option ℕ) → walk a 0 p ≡ o → IsSome (names_there a o) → (i : ℕ) × (walk a 0 p ≡ Some i)
        go None is some = cc
        go (Some i) is some = (i, is)

    all_at : (p : Path) → IsSome (view_at a 0 p) → Contains (paths_of order planned.each).0 p ⊎ IsLeftOut hash (view_at a 0) p
    all_at p some = let at = place_of p some in go at.0 at.1 (planned.all at.0 (omega arith) (p, at.1))
      where
        go : (i : ℕ) → walk a 0 p ≡ Some i → Contains order i ⊎ ((i ≢ 0) × (listed i ≡ [])) → Contains (paths_of order planned.each).0 p ⊎ IsLeftOut hash (view_at a 0) p
        go i at (inl among) = inl (path_among i p order (paths_of order planned.each).0 at (paths_of order planned.each).1 among)
        go i at (inr left) = inr (record {
          below_root = λ is. left.0 (one i 0 (sym at ∙ ap (walk a 0) is));
          nothing = subst (IsWritten hash (inside (view_at a 0) p)) left.1 (written_at i p at);
        })

    -- The trees that are planned are the output of the view.
    pub is_output : (output : Output) → output.hash ≡ hash → output.trees ≡ map tree_with (map listed order) → output.entries ≡ flat_map (λ entries. entries) (map listed order) → output.root ≡ id_with hash (listed 0) → IsOutputOfView hash (view_at a 0) output
    is_output output same trees entries root = record {
      paths = (paths_of order planned.each).0;
      listed = map listed order;
      each = each_at order (paths_of order planned.each).0 planned.each (paths_of order planned.each).1;
      inner_first = first_at order (paths_of order planned.each).0 planned.falls (paths_of order planned.each).1;
      all = all_at;
      same_hash = same;
      trees = trees;
      entries = entries;
      root = (listed 0, planned.written 0 (omega arith) ([], refl), root);
    }
