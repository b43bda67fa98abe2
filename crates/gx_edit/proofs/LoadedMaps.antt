-- Trees that are loaded on the way to a path of a view that stands for a map.
use Rattle.std.proofs.Common.{◌≡◌, ◌∙◌, inl, inr, sym, ap, refl, subst, cond, List, [], ◌∷◌, ℕ, Bool, true, false, true≢false, Option, Some, None, is_some, IsSome}
use Rattle.std.specs.FinMap.{get}
use Rattle.gx_hash.specs.declared.kind.HashKind.{HashKind}
use Rattle.gx_hash.specs.declared.oid.ObjectId.{ObjectId}
use Rattle.gx_object.specs.Mode.{is_tree_mode}
use Rattle.gx_store.specs.Content.{Content}
use Rattle.gx_edit.specs.Path.{Path}
use Rattle.gx_edit.specs.PathMap.{PathMap}
use Rattle.gx_edit.specs.EditorCauses.{IsOnWay, IsUnloaded}
use Rattle.gx_edit.specs.View.{Names, View, IsLoad, is_null, only, below, with_root, with_below, item_in, names_for, with_tree, opened}
use Rattle.gx_edit.specs.StandsForMap.{HoldsAt, StandsForMap, HasMap, map_below, without_leaf}
use Rattle.gx_edit.specs.declared.editor.item.Item.{Item}
use Rattle.gx_edit.proofs.NamesLemmas.{itself}
use Rattle.gx_edit.proofs.ViewParts.{root_names, stands_at}
use Rattle.gx_edit.proofs.ViewEdits.{no_tree, opened_stands}

module _ (hash : HashKind) (content : Content) where
  -- a directory's item that is no placeholder has a map where it is not loaded
  tree_map : (item : Item) (f : PathMap) → is_tree_mode item.mode.value ≡ true → is_null item.id ≡ false → HoldsAt hash content None (Some item) f → HasMap hash content item.id f
  tree_map item f tree known (inl l) = absurd (true≢false (sym tree ∙ ap (λ (i : Item). is_tree_mode i.mode.value) l.is ∙ no_tree l.leaf.mode.value l.good.mode))
  tree_map item f tree known (inr (inl p)) = absurd (true≢false (sym p.null ∙ known))
  tree_map item f tree known (inr (inr t)) = t.has_map

  unloaded_map : (v : View) (m : PathMap) (n : List ℕ) (id : ObjectId) → StandsForMap hash content v m → IsUnloaded v n id → HasMap hash content id (map_below m n)
  unloaded_map v m n id s u = subst (λ i. HasMap hash content i f) u.is_id (tree_map u.item f u.is_tree (ap is_null u.is_id ∙ u.known) here)
    where
      f : PathMap
      f = map_below m n

      root : (names : Names) × (v [] ≡ Some names)
      root = root_names hash content v m s

      item : get root.0 n ≡ Some u.item
      item = ap (λ (o : Option Names). item_in o n) (sym root.1) ∙ u.there

      here : HoldsAt hash content None (Some u.item) f
      here = subst (λ (o : Option Names). HoldsAt hash content o (Some u.item) f) u.unloaded (subst (λ (i : Option Item). HoldsAt hash content (v (n ∷ [])) i f) item (s.holds [] root.0 root.1 n))

module _ (hash : HashKind) (content : Content) (load : ObjectId → Names) (loads : IsLoad hash content load) where
  -- a directory that is opened is loaded
  opened_there : (v : View) (n : List ℕ) → IsSome (opened hash load v n (n ∷ []))
  opened_there v n = go (is_some (v (n ∷ []))) refl
    where
      names : Names
      names = names_for hash load (item_in (v []) n)

      go : (t : Bool) → is_some (v (n ∷ [])) ≡ t → IsSome (cond t v (with_below (with_root v (with_tree hash load n)) n (only names)) (n ∷ []))
      go true e = e
      go false e = ap (λ t. is_some (cond t (Some names) (v (n ∷ [])))) (itself n)

  pub loaded_has_map : (v : View) (m : PathMap) (path : Path) (id : ObjectId) → StandsForMap hash content v m → IsOnWay hash load v path id → (inner : PathMap) × HasMap hash content id inner
  loaded_has_map v m [] id s way = absurd way
  loaded_has_map v m (n ∷ []) id s way = absurd way
  loaded_has_map v m (n ∷ c ∷ p) id s (inl u) = (map_below m n, unloaded_map hash content v m n id s u)
  loaded_has_map v m (n ∷ c ∷ p) id s (inr way) =
      let w : View = opened hash load v n in
      let g : PathMap = without_leaf m n in
      loaded_has_map (below w n) (map_below g n) (c ∷ p) id (stands_at hash content w g n (opened_stands hash content load loads v m n s) (opened_there v n)) way
