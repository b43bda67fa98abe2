-- Each entry that is written of a view that stands for a map is that of a leaf of the map, or of a directory.
use Rattle.std.proofs.Common.{◌≡◌, ◌≢◌, ◌⊎◌, ◌∙◌, ◌++◌, inl, inr, sym, ap, refl, subst, cond, List, [], ◌∷◌, ℕ, false, true≢false, Option, Some, None, is_some, IsSome, Contains, append_assoc}
use Rattle.std.specs.List.{AllByRecursion, AllZip, flat_map}
use Rattle.std.specs.FinMap.{get}
use Rattle.gx_hash.specs.declared.kind.HashKind.{HashKind}
use Rattle.gx_object.specs.declared.kind.Kind.{Kind}
use Rattle.gx_object.specs.declared.tree.Entry.{Entry}
use Rattle.gx_object.specs.declared.tree.EntryKind.TheVariants as entry_kind
use Rattle.gx_object.specs.Mode.{mode_of}
use Rattle.gx_store.specs.Content.{Content, IsStored, lookup, id_of}
use Rattle.gx_edit.specs.Path.{Path}
use Rattle.gx_edit.specs.PathMap.{PathMap}
use Rattle.gx_edit.specs.CanonicalTree.{tree_of, trees_of, trees_below}
use Rattle.gx_edit.specs.Output.{Output}
use Rattle.gx_edit.specs.View.{Names, View, is_null, below}
use Rattle.gx_edit.specs.StandsForMap.{HoldsAt, StandsForMap, IsTreeItem, map_below}
use Rattle.gx_edit.specs.Written.{IsWritten, IsWrittenAt, IsOutputOfView, inside, entry_for, entry_in, entry_with, tree_with, id_with}
use Rattle.gx_edit.specs.Written.IsWritten.{written}
use Rattle.gx_edit.specs.LawsView.{IsLeafOf, IsTreeOf}
use Rattle.gx_edit.specs.declared.leaf.Leaf.{Leaf}
use Rattle.gx_edit.specs.declared.editor.item.Item.{Item}
use Rattle.gx_edit.proofs.DirectoryLemmas.{leaf_at-root}
use Rattle.gx_edit.proofs.EntryOrder.{All-append}
use Rattle.gx_edit.proofs.NamesLemmas.{not_null_is}
use Rattle.gx_edit.proofs.RootLemmas.{held, last}
use Rattle.gx_edit.proofs.ViewParts.{stands_at, stands_inside}
use Rattle.gx_edit.proofs.WrittenEntries.{loaded}
use Rattle.gx_edit.proofs.WrittenLists.{all_at, all_of}
use Rattle.gx_edit.proofs.WrittenTrees.{loaded_at, written_there}

one_entry : (x y : Entry) → ◌≡◌ {A = Option Entry} (Some x) (Some y) → x ≡ y
one_entry x y e = cc

-- what holds of each list of two told side by side holds of them all, one after another
zip_flat : {A B : Type 0} (R : A → List B → Type 0) (P : B → Type 0) → ((x : A) (ys : List B) → R x ys → AllByRecursion P ys) → (xs : List A) (lists : List (List B)) → AllZip R xs lists → AllByRecursion P (flat_map (λ ys. ys) lists)
zip_flat R P each [] [] all = tt
zip_flat R P each [] (ys ∷ lists) all = absurd all
zip_flat R P each (x ∷ xs) [] all = absurd all
zip_flat R P each (x ∷ xs) (ys ∷ lists) all = All-append P ys (flat_map (λ ys. ys) lists) (each x ys all.0) (zip_flat R P each xs lists all.1)

-- ---- what stands at a name

-- a leaf of the map below its root
record HasLeafBelow (f : PathMap) : Type 0 where
  pub name : List ℕ
  pub rest : Path
  pub leaf : Leaf
  pub there : f (name ∷ rest) ≡ Some leaf

-- the entry is the map's one leaf
record IsLeafHere (f : PathMap) (e : Entry) : Type 0 where
  pub leaf : Leaf
  pub here : f [] ≡ Some leaf
  pub mode : e.mode ≡ leaf.mode
  pub id : e.oid ≡ leaf.id

-- something is written of the view, and the entry has the id of that
record IsInner (hash : HashKind) (w : View) (e : Entry) : Type 0 where
  pub rows : List Entry
  pub written : IsWritten hash w rows
  pub some : rows ≢ []
  pub id : e.oid ≡ id_with hash rows

-- the entry is a tree's, by what is written of it, or as it is stored
record IsTreeHere (hash : HashKind) (content : Content) (w : View) (f : PathMap) (e : Entry) : Type 0 where
  pub mode : e.mode.value ≡ mode_of entry_kind.Tree
  pub under : HasLeafBelow f
  pub held : IsInner hash w e ⊎ IsStored content e.oid

module _ (hash : HashKind) (content : Content) where
  abbrev IsHere : View → PathMap → Entry → Type 0
  IsHere w f e = IsLeafHere f e ⊎ IsTreeHere hash content w f e

  leaf_below : (item : Item) (f : PathMap) → IsTreeItem hash content item f → HasLeafBelow f
  leaf_below item f t = go t.some.0 t.some.1
    where
      none : f [] ≡ None
      none = sym (t.has_map.represents.stands.leaves []) ∙ leaf_at-root t.has_map.represents.directory

      by : (c : List ℕ) (q : Path) (o : Option Leaf) → f (c ∷ q) ≡ o → IsSome o → HasLeafBelow f
      by c q None is there = absurd (true≢false (sym there))
      by c q (Some leaf) is there = record { name = c; rest = q; leaf = leaf; there = is }

      go : (p : Path) → IsSome (f p) → HasLeafBelow f
      go [] there = absurd (true≢false (sym there ∙ ap is_some none))
      go (c ∷ q) there = by c q (f (c ∷ q)) refl there

  -- the tree of a map is stored
  tree_stored : (item : Item) (f : PathMap) → IsTreeItem hash content item f → IsStored content item.id
  tree_stored item f t =
      let r = t.has_map.represents in
      ap is_some (ap (lookup content) r.is_root ∙ held hash content (trees_of hash r.directory) (tree_of hash r.directory) r.stored (last hash (trees_below hash r.directory) (tree_of hash r.directory)))

  -- an item that is not loaded is written as it is
  as_it_is : (item : Item) (n : List ℕ) (e : Entry) → is_null item.id ≡ false → entry_for hash n (Some item) None ≡ Some e → e ≡ entry_with n item item.id
  as_it_is item n e known is = sym (one_entry (entry_with n item item.id) e (sym (ap (λ t. cond t None (Some (entry_with n item item.id))) known) ∙ is))

  -- what is written of an item, by what it stands for
  entry_here : (o : Option Names) (item : Option Item) (w : View) (f : PathMap) (rows : List Entry) (n : List ℕ) (e : Entry) → HoldsAt hash content o item f → (IsSome o → IsWritten hash w rows) → (IsSome o → rows ≢ [] → HasLeafBelow f) → entry_for hash n item (loaded o rows) ≡ Some e → IsHere w f e
  entry_here None None w f rows n e h inner under is = cc
  entry_here None (Some item) w f rows n e (inl l) inner under is =
      let same = as_it_is item n e (ap (λ (i : Item). is_null i.id) l.is ∙ not_null_is l.leaf.id l.good.id) is in
      inl (record { leaf = l.leaf; here = l.here; mode = ap (λ (x : Entry). x.mode) same ∙ ap (λ (i : Item). i.mode) l.is; id = ap (λ (x : Entry). x.oid) same ∙ ap (λ (i : Item). i.id) l.is })
  entry_here None (Some item) w f rows n e (inr (inl p)) inner under is =
      absurd (let no : None ≡ Some e = sym (ap (λ t. cond t None (Some (entry_with n item item.id))) p.null) ∙ is in cc)
  entry_here None (Some item) w f rows n e (inr (inr t)) inner under is =
      let same = as_it_is item n e t.not_null is in
      inr (record { mode = ap (λ (x : Entry). x.mode.value) same ∙ t.mode; under = leaf_below item f t; held = inr (subst (IsStored content) (sym (ap (λ (x : Entry). x.oid) same)) (tree_stored item f t)) })
  entry_here (Some names) None w f rows n e h inner under is = absurd h
  entry_here (Some names) (Some item) w f [] n e h inner under is = cc
  entry_here (Some names) (Some item) w f (r ∷ rows) n e h inner under is =
      let same : e ≡ entry_with n item (id_with hash (r ∷ rows)) = sym (one_entry (entry_with n item (id_with hash (r ∷ rows))) e is) in
      inr (record { mode = ap (λ (x : Entry). x.mode.value) same ∙ h.0; under = under refl (λ none. cc); held = inl (record { rows = r ∷ rows; written = inner refl; some = λ none. cc; id = ap (λ (x : Entry). x.oid) same }) })

  -- ---- what stands in a directory

  here_below : (w : View) (f : PathMap) (n : List ℕ) (e : Entry) → IsHere w (map_below f n) e → HasLeafBelow f
  here_below w f n e (inl l) = record { name = n; rest = []; leaf = l.leaf; there = l.here }
  here_below w f n e (inr t) = record { name = n; rest = t.under.name ∷ t.under.rest; leaf = t.under.leaf; there = t.under.there }

  first_below : (look : List ℕ → Option Entry) (f : PathMap) (rows : List Entry) → AllByRecursion (λ (e : Entry). look e.filename ≡ Some e) rows → rows ≢ [] → ((e : Entry) → look e.filename ≡ Some e → HasLeafBelow f) → HasLeafBelow f
  first_below look f [] each some found = absurd (some refl)
  first_below look f (e ∷ rows) each some found = found e each.0

  -- where something is written, the map has a leaf
  some_leaf_below : (u : View) (rows : List Entry) → IsWritten hash u rows → (f : PathMap) → StandsForMap hash content u f → rows ≢ [] → HasLeafBelow f
  some_leaf_below u rows (written _ names inner _ root deeper list) f s some =
      first_below (entry_in hash u names inner) f rows list.each some
      (λ e is. here_below (below u e.filename) f e.filename e (entry_here (u (e.filename ∷ [])) (get names e.filename) (below u e.filename) (map_below f e.filename) (inner e.filename) e.filename e (s.holds [] names root e.filename) (deeper e.filename)
      (λ there more. some_leaf_below (below u e.filename) (inner e.filename) (deeper e.filename there) (map_below f e.filename) (stands_at hash content u f e.filename s there) more) is))

  rows_stand : (u : View) (rows : List Entry) → IsWritten hash u rows → (f : PathMap) → StandsForMap hash content u f → AllByRecursion (λ (e : Entry). IsHere (below u e.filename) (map_below f e.filename) e) rows
  rows_stand u rows (written _ names inner _ root deeper list) f s = all_of (λ (e : Entry). IsHere (below u e.filename) (map_below f e.filename) e) rows
      (λ e h. entry_here (u (e.filename ∷ [])) (get names e.filename) (below u e.filename) (map_below f e.filename) (inner e.filename) e.filename e (s.holds [] names root e.filename) (deeper e.filename)
      (λ there more. some_leaf_below (below u e.filename) (inner e.filename) (deeper e.filename there) (map_below f e.filename) (stands_at hash content u f e.filename s there) more)
      (all_at (λ (x : Entry). entry_in hash u names inner x.filename ≡ Some x) rows e list.each h))

  -- ---- what stands at a path

  module _ (v : View) (m : PathMap) (output : Output) (s : StandsForMap hash content v m) (out : IsOutputOfView hash v output) where
    abbrev IsAt : Path → Entry → Type 0
    IsAt p e = IsLeafOf m p e ⊎ IsTreeOf hash content output m p e

    inner_at : (p : Path) (n : List ℕ) (rows : List Entry) → IsWritten hash (below (inside v p) n) rows → IsWritten hash (inside v (p ++ n ∷ [])) rows
    inner_at p n rows w = subst (λ (u : View). IsWritten hash u rows) (λ i q. v (sym (append_assoc p (n ∷ []) q) i)) w

    at_path : (p : Path) (e : Entry) → IsHere (below (inside v p) e.filename) (λ q. m (p ++ e.filename ∷ q)) e → IsAt p e
    at_path p e (inl l) = inl (record { leaf = l.leaf; there = l.here; mode = l.mode; id = l.id })
    at_path p e (inr t) = inr (record { mode = t.mode; name = t.under.name; rest = t.under.rest; leaf = t.under.leaf; some = t.under.there; held = go t.held })
      where
        go : IsInner hash (below (inside v p) e.filename) e ⊎ IsStored content e.oid → ((tree : Kind × List ℕ) × Contains output.trees tree × (e.oid ≡ id_of hash tree)) ⊎ IsStored content e.oid
        go (inl i) = inl (tree_with i.rows, written_there hash v output out (p ++ e.filename ∷ []) i.rows (inner_at p e.filename i.rows i.written) (inr i.some), i.id)
        go (inr stored) = inr stored

    at_each : (p : Path) (rows : List Entry) → IsWrittenAt hash v p rows → AllByRecursion (λ e. (q : Path) × IsAt q e) rows
    at_each p rows w = all_of (λ e. (q : Path) × IsAt q e) rows (λ e h. (p, at_path p e (all_at _ rows e relative h)))
      where
        relative : AllByRecursion (λ (e : Entry). IsHere (below (inside v p) e.filename) (λ q. m (p ++ e.filename ∷ q)) e) rows
        relative = rows_stand (inside v p) rows w.written (λ q. m (p ++ q)) (stands_inside hash content v m p s (loaded_at hash v p rows w.written))

    pub entries_stand : AllByRecursion (λ e. (q : Path) × IsAt q e) output.entries
    entries_stand = subst (AllByRecursion (λ e. (q : Path) × IsAt q e)) (sym out.entries) (zip_flat (IsWrittenAt hash v) (λ e. (q : Path) × IsAt q e) at_each out.paths out.listed out.each)
