-- What opening, putting and removing make of the map that a view stands for.
use Rattle.std.proofs.Common.{◌≡◌, inl, inr, ◌∙◌, ◌&&◌, ◌||◌, sym, ap, refl, subst, cond, List, [], ◌∷◌, ℕ, Bool, true, false, true≢false, Option, Some, None, is_some, IsSome, option_map}
use Rattle.std.specs.Str.{bytes_eq}
use Rattle.std.specs.FinMap.{get, insert, remove, empty}
use Rattle.gx_hash.specs.declared.kind.HashKind.{HashKind}
use Rattle.gx_hash.specs.declared.oid.ObjectId.{ObjectId}
use Rattle.gx_object.specs.declared.tree.EntryKind.TheVariants as entry_kind
use Rattle.gx_object.specs.Mode.{mode_of, is_tree_mode}
use Rattle.gx_store.specs.Content.{Content}
use Rattle.gx_edit.specs.Path.{Path, path_eq, leads_to}
use Rattle.gx_edit.specs.PathMap.{PathMap, put, dropped}
use Rattle.gx_edit.specs.PathList.{IsLeaf}
use Rattle.gx_edit.specs.CanonicalTree.{IsLeafMode}
use Rattle.gx_edit.specs.View.{Names, View, IsLoad, is_null, leads, only, below, with_root, with_below, forgotten, item_in, new_tree, names_for, with_tree, opened, upserted, removed}
use Rattle.gx_edit.specs.StandsForMap.{HoldsAt, StandsForMap, IsNowhere, item_of, map_below, without_leaf}
use Rattle.gx_edit.specs.declared.leaf.Leaf.{Leaf}
use Rattle.gx_edit.specs.declared.editor.item.Item.{Item}
use Rattle.gx_edit.proofs.PathLemmas.{bytes_eq-is}
use Rattle.gx_edit.proofs.DirectoryLemmas.{leaf_at-root}
use Rattle.gx_edit.proofs.TextLemmas.{bytes_eq-turned}
use Rattle.gx_edit.proofs.NamesLemmas.{itself, inserted_here, inserted_elsewhere, removed_here, removed_elsewhere}
use Rattle.gx_edit.proofs.ViewParts.{swapped, stands_at, root_names}
use Rattle.gx_edit.proofs.FreshView.{empty_stands, loaded_stands}

pub no_tree : (mode : ℕ) → IsLeafMode mode → is_tree_mode mode ≡ false
no_tree mode (inl e) = ap is_tree_mode e
no_tree mode (inr (inl e)) = ap is_tree_mode e
no_tree mode (inr (inr (inl e))) = ap is_tree_mode e
no_tree mode (inr (inr (inr e))) = ap is_tree_mode e

-- ---- edits of a map, below a name

put_at : (m : PathMap) (n : List ℕ) (p : Path) (x : Leaf) (c : List ℕ) (r : Path) → put m (n ∷ p) x (c ∷ r) ≡ cond (bytes_eq n c) (put (map_below m n) p x r) (m (c ∷ r))
put_at m n p x c r =
    ap (λ u. cond (bytes_eq n c && path_eq p r) (Some x) (cond ((bytes_eq n c && leads_to p r) || (u && leads_to r p)) None (m (c ∷ r)))) (bytes_eq-turned c n)
    ∙ go (bytes_eq n c) refl
  where
    go : (t : Bool) → bytes_eq n c ≡ t → cond (t && path_eq p r) (Some x) (cond ((t && leads_to p r) || (t && leads_to r p)) None (m (c ∷ r))) ≡ cond t (put (map_below m n) p x r) (m (c ∷ r))
    go true e = ap (λ b. cond (path_eq p r) (Some x) (cond (leads_to p r || leads_to r p) None (m (b ∷ r)))) (sym (bytes_eq-is n c e))
    go false e = refl

dropped_at : (m : PathMap) (n : List ℕ) (p : Path) (c : List ℕ) (r : Path) → dropped m (n ∷ p) (c ∷ r) ≡ cond (bytes_eq n c) (dropped (map_below m n) p r) (m (c ∷ r))
dropped_at m n p c r = go (bytes_eq n c) refl
  where
    go : (t : Bool) → bytes_eq n c ≡ t → cond (t && leads_to p r) None (m (c ∷ r)) ≡ cond t (dropped (map_below m n) p r) (m (c ∷ r))
    go true e = ap (λ b. cond (leads_to p r) None (m (b ∷ r))) (sym (bytes_eq-is n c e))
    go false e = refl

-- a map without what stands at its root
abbrev cleared : PathMap → PathMap
cleared m [] = None
cleared m (c ∷ q) = m (c ∷ q)

module _ (hash : HashKind) (content : Content) (load : ObjectId → Names) (loads : IsLoad hash content load) where
  abbrev Stands : View → PathMap → Type 0
  Stands = StandsForMap hash content

  abbrev Holds : Option Names → Option Item → PathMap → Type 0
  Holds = HoldsAt hash content

  -- ---- a directory that is loaded

  cleared_nowhere : (f : PathMap) → ((c : List ℕ) (q : Path) → f (c ∷ q) ≡ None) → IsNowhere (cleared f)
  cleared_nowhere f none [] = refl
  cleared_nowhere f none (c ∷ q) = none c q

  names_if : Bool → Bool → ObjectId → Names
  names_if tree null id = cond tree (cond null empty (load id)) empty

  -- whatever the mode, a null id loads nothing
  nothing_if : (t : Bool) (id : ObjectId) (f : PathMap) → IsNowhere f → Stands (only (cond t (cond true empty (load id)) empty)) f
  nothing_if true id f none = empty_stands hash content f none
  nothing_if false id f none = empty_stands hash content f none

  -- what is loaded for an item stands for what the item stood for, but a leaf goes
  item_stands : (o : Option Item) (f : PathMap) → Holds None o f → Stands (only (names_for hash load o)) (cleared f)
  item_stands None f none = empty_stands hash content (cleared f) (cleared_nowhere f (λ c q. none (c ∷ q)))
  item_stands (Some item) f (inl l) =
      subst (λ t. Stands (only (cond t (cond (is_null item.id) empty (load item.id)) empty)) (cleared f)) (sym (ap (λ (i : Item). is_tree_mode i.mode.value) l.is ∙ no_tree l.leaf.mode.value l.good.mode))
      (empty_stands hash content (cleared f) (cleared_nowhere f l.below))
  item_stands (Some item) f (inr (inl h)) =
      subst (λ t. Stands (only (cond (is_tree_mode item.mode.value) (cond t empty (load item.id)) empty)) (cleared f)) (sym h.null)
      (nothing_if (is_tree_mode item.mode.value) item.id (cleared f) (cleared_nowhere f (λ c q. h.nowhere (c ∷ q))))
  item_stands (Some item) f (inr (inr t)) =
      subst (λ b. Stands (only (cond b (cond (is_null item.id) empty (load item.id)) empty)) (cleared f)) (sym (ap is_tree_mode t.mode))
      (subst (λ b. Stands (only (cond b empty (load item.id))) (cleared f)) (sym t.not_null)
      (subst (λ (g : PathMap). Stands (only (load item.id)) g) (λ i q. same q i) (loaded_stands hash content item.id f t.has_map load loads)))
    where
      same : (q : Path) → f q ≡ cleared f q
      same [] = sym (t.has_map.represents.stands.leaves []) ∙ leaf_at-root t.has_map.represents.directory
      same (c ∷ q) = refl

  -- ---- a directory that is opened

  -- a directory's item stands at the name, and the others are as before
  record HasTree (n : List ℕ) (old new : Names) : Type 0 where
    pub item : Item
    pub names : (c : List ℕ) → bytes_eq n c ≡ false → get new c ≡ get old c
    pub item_is : get new n ≡ Some item
    pub mode : item.mode.value ≡ mode_of entry_kind.Tree

  -- from a view to one with a directory opened
  record Way (v w : View) (m : PathMap) (n : List ℕ) : Type 0 where
    pub old : Names
    pub new : Names
    pub tree : HasTree n old new
    pub old_is : v [] ≡ Some old
    pub new_is : w [] ≡ Some new
    pub others : (c : List ℕ) (q : Path) → bytes_eq n c ≡ false → w (c ∷ q) ≡ v (c ∷ q)
    pub inner : Stands (below w n) (cleared (map_below m n))

  tree_mode : (item : Item) (f : PathMap) → Holds None (Some item) f → is_tree_mode item.mode.value ≡ true → item.mode.value ≡ mode_of entry_kind.Tree
  tree_mode item f (inl l) t = absurd (true≢false (sym t ∙ ap (λ (i : Item). is_tree_mode i.mode.value) l.is ∙ no_tree l.leaf.mode.value l.good.mode))
  tree_mode item f (inr (inl h)) t = h.mode t
  tree_mode item f (inr (inr h)) t = h.mode

  has_tree : (n : List ℕ) (old : Names) (f : PathMap) → Holds None (get old n) f → HasTree n old (with_tree hash load n old)
  has_tree n old f h = go (get old n) refl h
    where
      made : HasTree n old (insert old n (new_tree hash))
      made = record { item = new_tree hash; names = λ c other. inserted_elsewhere old n c (new_tree hash) other; item_is = inserted_here old n (new_tree hash); mode = refl }

      by : (item : Item) → get old n ≡ Some item → Holds None (Some item) f → (t : Bool) → is_tree_mode item.mode.value ≡ t → HasTree n old (cond t old (insert old n (new_tree hash)))
      by item is h true t = record { item = item; names = λ c other. refl; item_is = is; mode = tree_mode item f h t }
      by item is h false t = made

      go : (o : Option Item) → get old n ≡ o → Holds None o f → HasTree n old (with_tree hash load n old)
      go None is h = subst (λ (x : Option Item). HasTree n old (cond (leads x) old (insert old n (new_tree hash)))) (sym is) made
      go (Some item) is h = subst (λ (x : Option Item). HasTree n old (cond (leads x) old (insert old n (new_tree hash)))) (sym is) (by item is h (is_tree_mode item.mode.value) refl)

  way : (v : View) (m : PathMap) (n : List ℕ) → Stands v m → Way v (opened hash load v n) m n
  way v m n s = go (v []) refl (v (n ∷ [])) refl
    where
      f : PathMap
      f = map_below m n

      opening : View
      opening = with_below (with_root v (with_tree hash load n)) n (only (names_for hash load (item_in (v []) n)))

      loaded : (old inside : Names) → v [] ≡ Some old → v (n ∷ []) ≡ Some inside → (o : Option Item) → get old n ≡ o → Holds (Some inside) o f → Way v v m n
      loaded old inside root is None e h = absurd h
      loaded old inside root is (Some item) e h = record {
        old = old;
        new = old;
        tree = record { item = item; names = λ c other. refl; item_is = e; mode = h.0 };
        old_is = root;
        new_is = root;
        others = λ c q other. refl;
        inner = subst (λ (g : PathMap). Stands (below v n) g) (λ i q. same q i) (stands_at hash content v m n s (ap is_some is));
      }
        where
          same : (q : Path) → f q ≡ cleared f q
          same [] = h.1
          same (c ∷ q) = refl

      go : (r : Option Names) → v [] ≡ r → (o : Option Names) → v (n ∷ []) ≡ o → Way v (opened hash load v n) m n
      go None root o is = absurd (true≢false (sym s.root ∙ ap is_some root))
      go (Some old) root (Some inside) is = subst (λ (x : Option Names). Way v (cond (is_some x) v opening) m n) (sym is)
          (loaded old inside root is (get old n) refl (subst (λ (x : Option Names). Holds x (get old n) f) is (s.holds [] old root n)))
      go (Some old) root None is =
          let h : Holds None (get old n) f = subst (λ (x : Option Names). Holds x (get old n) f) is (s.holds [] old root n) in
          subst (λ (x : Option Names). Way v (cond (is_some x) v opening) m n) (sym is) (record {
            old = old;
            new = with_tree hash load n old;
            tree = has_tree n old f h;
            old_is = root;
            new_is = ap (option_map (with_tree hash load n)) root;
            others = λ c q other. ap (λ b. cond b (only (names_for hash load (item_in (v []) n)) q) (v (c ∷ q))) other;
            inner = subst (λ (u : View). Stands u (cleared f)) (sym inside_is) (subst (λ (x : Option Names). Stands (only (names_for hash load (item_in x n))) (cleared f)) (sym root) (item_stands (get old n) f h));
          })
        where
          inside_is : below opening n ≡ only (names_for hash load (item_in (v []) n))
          inside_is = λ i q. ap (λ b. cond b (only (names_for hash load (item_in (v []) n)) q) (v (n ∷ q))) (itself n) i

  -- another view in an opened directory
  descend : (v w u : View) (m k g : PathMap) (n : List ℕ) → Stands v m → Way v w m n → Stands u g → k [] ≡ None → ((c : List ℕ) (q : Path) → bytes_eq n c ≡ false → k (c ∷ q) ≡ m (c ∷ q)) → ((q : Path) → k (n ∷ q) ≡ g q)
      → Stands (with_below w n u) k
  descend v w u m k g n s y inner none far near = swapped hash content v (with_below w n u) m k n y.old y.new s (record {
    old_is = y.old_is;
    new_is = y.new_is;
    no_root = none;
    names = y.tree.names;
    others = λ c q other. ap (λ b. cond b (u q) (w (c ∷ q))) other ∙ y.others c q other;
    leaves = far;
    at = subst (λ (o : Option Item). Holds (with_below w n u (n ∷ [])) o (map_below k n)) (sym y.tree.item_is) (at (with_below w n u (n ∷ [])) (subst (λ (o : Option Names). IsSome o) (sym (here [])) inner.root));
    inner = λ there. subst (λ (x : View). Stands x (map_below k n)) (λ i q. sym (here q) i) (subst (λ (f : PathMap). Stands u f) (λ i q. sym (near q) i) inner);
    closed = λ e h. absurd (true≢false (sym inner.root ∙ ap is_some (sym (here []) ∙ h)));
  })
    where
      here : (q : Path) → with_below w n u (n ∷ q) ≡ u q
      here q = ap (λ b. cond b (u q) (w (n ∷ q))) (itself n)

      at : (o : Option Names) → IsSome o → Holds o (Some y.tree.item) (map_below k n)
      at None there = absurd (true≢false (sym there))
      at (Some names) there = (y.tree.mode, near [] ∙ inner.no_root)

  -- another item at a name, with nothing loaded below it
  replaced : (v : View) (m k : PathMap) (n : List ℕ) (change : Names → Names) → Stands v m → ((d : Names) (c : List ℕ) → bytes_eq n c ≡ false → get (change d) c ≡ get d c) → k [] ≡ None → ((c : List ℕ) (q : Path) → bytes_eq n c ≡ false → k (c ∷ q) ≡ m (c ∷ q))
      → ((d : Names) → Holds None (get (change d) n) (map_below k n)) → Stands (forgotten (with_root v change) n) k
  replaced v m k n change s names none far near = go (root_names hash content v m s)
    where
      w : View
      w = forgotten (with_root v change) n

      gone : (q : Path) → w (n ∷ q) ≡ None
      gone q = ap (λ b. cond b None (v (n ∷ q))) (itself n)

      go : (old : Names) × (v [] ≡ Some old) → Stands w k
      go (old, root) = swapped hash content v w m k n old (change old) s (record {
        old_is = root;
        new_is = ap (option_map change) root;
        no_root = none;
        names = names old;
        others = λ c q other. ap (λ b. cond b None (v (c ∷ q))) other;
        leaves = far;
        at = subst (λ (o : Option Names). Holds o (get (change old) n) (map_below k n)) (sym (gone [])) (near old);
        inner = λ there. absurd (true≢false (sym there ∙ ap is_some (gone [])));
        closed = λ e h. gone e;
      })

  -- ---- the edits

  pub upserted_stands : (v : View) (m : PathMap) (n : List ℕ) (p : Path) (leaf : Leaf) → IsLeaf leaf → Stands v m → Stands (upserted hash load v (n ∷ p) (item_of leaf)) (put m (n ∷ p) leaf)
  upserted_stands v m n [] leaf good s = replaced v m (put m (n ∷ []) leaf) n (λ d. insert d n (item_of leaf)) s (λ d c other. inserted_elsewhere d n c (item_of leaf) other) refl
      (λ c q other. put_at m n [] leaf c q ∙ ap (λ b. cond b (put (map_below m n) [] leaf q) (m (c ∷ q))) other)
      (λ d. subst (λ (o : Option Item). Holds None o (map_below (put m (n ∷ []) leaf) n)) (sym (inserted_here d n (item_of leaf)))
      (inl (record { leaf = leaf; is = refl; good = good; here = here []; below = λ c q. here (c ∷ q) })))
    where
      here : (q : Path) → put m (n ∷ []) leaf (n ∷ q) ≡ put (map_below m n) [] leaf q
      here q = put_at m n [] leaf n q ∙ ap (λ b. cond b (put (map_below m n) [] leaf q) (m (n ∷ q))) (itself n)
  upserted_stands v m n (c ∷ p) leaf good s =
      let y = way v m n s in
      descend v (opened hash load v n) _ m (put m (n ∷ c ∷ p) leaf) (put (cleared (map_below m n)) (c ∷ p) leaf) n s y
      (upserted_stands (below (opened hash load v n) n) (cleared (map_below m n)) c p leaf good y.inner) refl
      (λ b q other. put_at m n (c ∷ p) leaf b q ∙ ap (λ t. cond t (put (map_below m n) (c ∷ p) leaf q) (m (b ∷ q))) other)
      (λ q. put_at m n (c ∷ p) leaf n q ∙ ap (λ t. cond t (put (map_below m n) (c ∷ p) leaf q) (m (n ∷ q))) (itself n) ∙ same q)
    where
      same : (q : Path) → put (map_below m n) (c ∷ p) leaf q ≡ put (cleared (map_below m n)) (c ∷ p) leaf q
      same [] = refl
      same (b ∷ q) = refl

  pub opened_stands : (v : View) (m : PathMap) (n : List ℕ) → Stands v m → Stands (opened hash load v n) (without_leaf m n)
  opened_stands v m n s =
      let y = way v m n s in
      subst (λ (x : View). Stands x (without_leaf m n)) (λ i q. same q i) (descend v w (below w n) m (without_leaf m n) (cleared (map_below m n)) n s y y.inner s.no_root
      (λ c q other. ap (λ t. cond (t && path_eq [] q) None (m (c ∷ q))) other) near)
    where
      w : View
      w = opened hash load v n

      near : (q : Path) → without_leaf m n (n ∷ q) ≡ cleared (map_below m n) q
      near [] = ap (λ t. cond (t && true) None (m (n ∷ []))) (itself n)
      near (c ∷ q) = ap (λ t. cond (t && false) None (m (n ∷ c ∷ q))) (itself n)

      same : (q : Path) → with_below w n (below w n) q ≡ w q
      same [] = refl
      same (c ∷ q) = go (bytes_eq n c) refl
        where
          go : (t : Bool) → bytes_eq n c ≡ t → cond t (w (n ∷ q)) (w (c ∷ q)) ≡ w (c ∷ q)
          go true e = ap (λ b. w (b ∷ q)) (bytes_eq-is n c e)
          go false e = refl

  -- ---- removing

  -- where a directory stands, no leaf does
  no_leaf_here : (o : Option Names) (item : Option Item) (f : PathMap) → Holds o item f → leads item ≡ true → f [] ≡ None
  no_leaf_here (Some names) None f h t = absurd h
  no_leaf_here (Some names) (Some item) f h t = h.1
  no_leaf_here None None f h t = h []
  no_leaf_here None (Some item) f (inl l) t = absurd (true≢false (sym t ∙ ap (λ (i : Item). is_tree_mode i.mode.value) l.is ∙ no_tree l.leaf.mode.value l.good.mode))
  no_leaf_here None (Some item) f (inr (inl h)) t = h.nowhere []
  no_leaf_here None (Some item) f (inr (inr h)) t = sym (h.has_map.represents.stands.leaves []) ∙ leaf_at-root h.has_map.represents.directory

  -- where none stands, nothing is below
  none_below : (o : Option Names) (item : Option Item) (f : PathMap) → Holds o item f → leads item ≡ false → (c : List ℕ) (q : Path) → f (c ∷ q) ≡ None
  none_below (Some names) None f h t c q = absurd h
  none_below (Some names) (Some item) f h t c q = absurd (true≢false (sym (ap is_tree_mode h.0) ∙ t))
  none_below None None f h t c q = h (c ∷ q)
  none_below None (Some item) f (inl l) t c q = l.below c q
  none_below None (Some item) f (inr (inl h)) t c q = h.nowhere (c ∷ q)
  none_below None (Some item) f (inr (inr h)) t c q = absurd (true≢false (sym (ap is_tree_mode h.mode) ∙ t))

  -- what a drop leaves where nothing is below a name
  unchanged : (m : PathMap) (n c : List ℕ) (p : Path) → ((b : List ℕ) (q : Path) → m (n ∷ b ∷ q) ≡ None) → (q : Path) → m q ≡ dropped m (n ∷ c ∷ p) q
  unchanged m n c p none [] = refl
  unchanged m n c p none (b ∷ q) = sym (dropped_at m n (c ∷ p) b q ∙ by (bytes_eq n b) refl)
    where
      all_gone : (t : Bool) (a : List ℕ) (r : Path) → cond t None (m (n ∷ a ∷ r)) ≡ m (n ∷ a ∷ r)
      all_gone true a r = sym (none a r)
      all_gone false a r = refl

      inside : (q : Path) → dropped (map_below m n) (c ∷ p) q ≡ m (n ∷ q)
      inside [] = refl
      inside (a ∷ r) = all_gone (leads_to (c ∷ p) (a ∷ r)) a r

      by : (t : Bool) → bytes_eq n b ≡ t → cond t (dropped (map_below m n) (c ∷ p) q) (m (b ∷ q)) ≡ m (b ∷ q)
      by false e = refl
      by true e = inside q ∙ ap (λ a. m (a ∷ q)) (bytes_eq-is n b e)

  pub removed_stands : (v : View) (m : PathMap) (n : List ℕ) (p : Path) → Stands v m → Stands (removed hash load v (n ∷ p)) (dropped m (n ∷ p))
  removed_stands v m n [] s = replaced v m (dropped m (n ∷ [])) n (λ d. remove d n) s (λ d c other. removed_elsewhere d n c other) s.no_root
      (λ c q other. dropped_at m n [] c q ∙ ap (λ b. cond b None (m (c ∷ q))) other)
      (λ d. subst (λ (o : Option Item). Holds None o (map_below (dropped m (n ∷ [])) n)) (sym (removed_here d n))
      (λ q. dropped_at m n [] n q ∙ ap (λ b. cond b None (m (n ∷ q))) (itself n)))
  removed_stands v m n (c ∷ p) s =
      let y = way v m n s in
      go y.old y.old_is (leads (item_in (v []) n)) refl
      (λ none. descend v (opened hash load v n) _ m (dropped m (n ∷ c ∷ p)) (dropped (cleared (map_below m n)) (c ∷ p)) n s y
      (removed_stands (below (opened hash load v n) n) (cleared (map_below m n)) c p y.inner) s.no_root
      (λ b q other. dropped_at m n (c ∷ p) b q ∙ ap (λ t. cond t (dropped (map_below m n) (c ∷ p) q) (m (b ∷ q))) other)
      (λ q. dropped_at m n (c ∷ p) n q ∙ ap (λ t. cond t (dropped (map_below m n) (c ∷ p) q) (m (n ∷ q))) (itself n) ∙ same none q))
    where
      same : m (n ∷ []) ≡ None → (q : Path) → dropped (map_below m n) (c ∷ p) q ≡ dropped (cleared (map_below m n)) (c ∷ p) q
      same none [] = none
      same none (b ∷ q) = refl

      deeper : View
      deeper = with_below (opened hash load v n) n (removed hash load (below (opened hash load v n) n) (c ∷ p))

      go : (old : Names) → v [] ≡ Some old → (t : Bool) → leads (item_in (v []) n) ≡ t → (m (n ∷ []) ≡ None → Stands deeper (dropped m (n ∷ c ∷ p))) → Stands (cond (leads (item_in (v []) n)) deeper v) (dropped m (n ∷ c ∷ p))
      go old root true t rest = subst (λ b. Stands (cond b deeper v) (dropped m (n ∷ c ∷ p))) (sym t)
          (rest (no_leaf_here (v (n ∷ [])) (get old n) (map_below m n) (s.holds [] old root n) (ap (λ (x : Option Names). leads (item_in x n)) (sym root) ∙ t)))
      go old root false t rest = subst (λ b. Stands (cond b deeper v) (dropped m (n ∷ c ∷ p))) (sym t)
          (subst (λ (f : PathMap). Stands v f) (λ i q. unchanged m n c p (none_below (v (n ∷ [])) (get old n) (map_below m n) (s.holds [] old root n) (ap (λ (x : Option Names). leads (item_in x n)) (sym root) ∙ t)) q i) s)
