-- What is on the way to a path and not loaded.
use Rattle.std.proofs.Common.{◌≡◌, inl, inr, ◌∙◌, sym, ap, ap₂, refl, subst, cond, List, [], ◌∷◌, ◌++◌, ℕ, Bool, true, false, true≢false, Option, None}
use Rattle.std.specs.Prelude.{slice_get}
use Rattle.gx_hash.specs.declared.kind.HashKind.{HashKind}
use Rattle.gx_hash.specs.declared.oid.ObjectId.{ObjectId}
use Rattle.gx_store.specs.State.{StoreState}
use Rattle.gx_edit.specs.Path.{Path}
use Rattle.gx_edit.specs.PathList.{has_empty_name}
use Rattle.gx_edit.specs.View.{Names, View, only, below, with_root, with_tree, item_in, leads, names_for, opened, opened_along}
use Rattle.gx_edit.specs.EditorCauses.{IsOnWay, MayLoad, EditCauses, entry_at}
use Rattle.gx_edit.specs.Nodes.{Place, AreLinked, Goes, IsLoaded, Pushes, IsLedAlong, LoadRefused, WayRefused, DropRefused, DropCauses, name_at, inner_at, view_at, view_in}
use Rattle.gx_edit.specs.declared.editor.item.Item.{Item}
use Rattle.gx_edit.specs.declared.error.EditError.{EditError}
use Rattle.gx_edit.specs.declared.error.EditError.TheVariants as edit_error
use Rattle.gx_edit.proofs.NodeLemmas.{loaded_along, there}
use Rattle.gx_edit.proofs.OpeningLemmas.{where_map, where_both, where_all, opens_anew, item_there, not_loaded, new_view}
use Rattle.gx_edit.proofs.ViewLemmas.{below_put, opened_same, IsLoadedAlong}

-- a directory that is not loaded, once it is
pub opened_below : (hash : HashKind) (load : ObjectId → Names) (v : View) (n : List ℕ) (names : Names) → v (n ∷ []) ≡ None → names ≡ names_for hash load (item_in (v []) n) → below (opened hash load v n) n ≡ only names
opened_below hash load v n names none own =
    ap (λ (w : View). below w n) (opens_anew hash load v n none)
    ∙ below_put (with_root v (with_tree hash load n)) n (only (names_for hash load (item_in (v []) n)))
    ∙ ap only (sym own)

module _ (hash : HashKind) (load : ObjectId → Names) where
  step : (v : View) (m : List ℕ) (d : Path) (c : List ℕ) (p : Path) (id : ObjectId) → IsOnWay hash load (below (opened hash load v m) m) (d ++ c ∷ p) id → IsOnWay hash load v (m ∷ d ++ c ∷ p) id
  step v m [] c p id h = inr h
  step v m (k ∷ d) c p id h = inr h

  -- behind directories that are being loaded
  pub way_along : (v : View) (d : Path) (c : List ℕ) (p : Path) (id : ObjectId) → IsOnWay hash load (view_in (opened_along hash load v d) d) (c ∷ p) id → IsOnWay hash load v (d ++ c ∷ p) id
  way_along v [] c p id h = h
  way_along v (m ∷ d) c p id h =
      let z : View = opened_along hash load (below (opened hash load v m) m) d in
      step v m d c p id (way_along (below (opened hash load v m) m) d c p id (subst (λ (x : View). IsOnWay hash load (view_in x d) (c ∷ p) id) (below_put (opened hash load v m) m z) h))

  -- behind directories that are loaded
  pub way_in : (v : View) (d : Path) (c : List ℕ) (p : Path) (id : ObjectId) → IsLoadedAlong v d → IsOnWay hash load (view_in v d) (c ∷ p) id → IsOnWay hash load v (d ++ c ∷ p) id
  way_in v [] c p id loaded h = h
  way_in v (m ∷ d) c p id loaded h =
      step v m d c p id (subst (λ (x : View). IsOnWay hash load (below x m) (d ++ c ∷ p) id) (sym (opened_same hash load v m loaded.0)) (way_in (below v m) d c p id loaded.2 h))

  -- in a directory that was loaded for it
  pub way_into : (v : View) (n : List ℕ) (names : Names) (path : Path) (id : ObjectId) → v (n ∷ []) ≡ None → names ≡ names_for hash load (item_in (v []) n) → IsOnWay hash load (only names) path id → IsOnWay hash load v (n ∷ path) id
  way_into v n names [] id none own h = absurd h
  way_into v n names (c ∷ p) id none own h = inr (subst (λ (x : View). IsOnWay hash load x (c ∷ p) id) (sym (opened_below hash load v n names none own)) h)

  -- ---- what stands at a path

  entry_step : (v : View) (m : List ℕ) (d : Path) (c : List ℕ) (p : Path) → leads (item_in (v []) m) ≡ true → entry_at hash load v (m ∷ d ++ c ∷ p) ≡ entry_at hash load (below (opened hash load v m) m) (d ++ c ∷ p)
  entry_step v m [] c p led = ap (λ t. cond t (entry_at hash load (below (opened hash load v m) m) (c ∷ p)) None) led
  entry_step v m (k ∷ d) c p led = ap (λ t. cond t (entry_at hash load (below (opened hash load v m) m) (k ∷ d ++ c ∷ p)) None) led

  pub entry_along : (v : View) (d : Path) (c : List ℕ) (p : Path) → IsLedAlong hash load v d → entry_at hash load v (d ++ c ∷ p) ≡ entry_at hash load (view_in (opened_along hash load v d) d) (c ∷ p)
  entry_along v [] c p led = refl
  entry_along v (m ∷ d) c p led =
      let z : View = opened_along hash load (below (opened hash load v m) m) d in
      entry_step v m d c p led.0 ∙ entry_along (below (opened hash load v m) m) d c p led.1
      ∙ ap (λ (x : View). entry_at hash load (view_in x d) (c ∷ p)) (sym (below_put (opened hash load v m) m z))

  pub entry_in : (v : View) (d : Path) (c : List ℕ) (p : Path) → IsLoadedAlong v d → entry_at hash load v (d ++ c ∷ p) ≡ entry_at hash load (view_in v d) (c ∷ p)
  entry_in v [] c p loaded = refl
  entry_in v (m ∷ d) c p loaded =
      entry_step v m d c p loaded.1 ∙ ap (λ (x : View). entry_at hash load (below x m) (d ++ c ∷ p)) (opened_same hash load v m loaded.0) ∙ entry_in (below v m) d c p loaded.2

  pub entry_into : (v : View) (n : List ℕ) (names : Names) (c : List ℕ) (p : Path) → leads (item_in (v []) n) ≡ true → v (n ∷ []) ≡ None → names ≡ names_for hash load (item_in (v []) n) → entry_at hash load v (n ∷ c ∷ p) ≡ entry_at hash load (only names) (c ∷ p)
  entry_into v n names c p led none own =
      ap (λ t. cond t (entry_at hash load (below (opened hash load v n) n) (c ∷ p)) None) led
      ∙ ap (λ (x : View). entry_at hash load x (c ∷ p)) (opened_below hash load v n names none own)

  -- nothing stands behind what is no directory
  pub entry_stops : (v : View) (n c : List ℕ) (p : Path) → leads (item_in (v []) n) ≡ false → entry_at hash load v (n ∷ c ∷ p) ≡ None
  entry_stops v n c p none = ap (λ t. cond t (entry_at hash load (below (opened hash load v n) n) (c ∷ p)) None) none

-- ---- refusals

-- the directory of the next name is not loaded
pub refused_here : (state : StoreState) (v : View) (n c : List ℕ) (p : Path) (error : EditError) → v (n ∷ []) ≡ None → LoadRefused state (item_in (v []) n) error → WayRefused state v (n ∷ c ∷ p) error
refused_here state v n c p error none (inl e) = inl e
refused_here state v n c p error none (inr h) =
    inr (h.tree.id, where_all state (λ load. inl (record { item = h.tree; there = h.there; is_tree = h.is_tree; is_id = refl; known = h.known; unloaded = none })), h.why)

-- a refusal further on the way is one on the whole way
pub refused_more : (state : StoreState) (v w : View) (path more : Path) (error : EditError) → ((id : ObjectId) → MayLoad state w more id → MayLoad state v path id) → WayRefused state w more error → WayRefused state v path error
refused_more state v w path more error f (inl e) = inl e
refused_more state v w path more error f (inr h) = inr (h.0, f h.0 h.1, h.2)

-- a refusal in a directory that the path leads to
pub refused_along : (state : StoreState) (a : List Place) (links : AreLinked a) (path : Path) (k : ℕ) (c : List ℕ) (p : Path) (error : EditError) → Goes a path k (c ∷ p) → WayRefused state (view_at a k) (c ∷ p) error → WayRefused state (view_at a 0) path error
refused_along state a links path k c p error g = refused_more state (view_at a 0) (view_at a k) path (c ∷ p) error (λ id. where_map state (λ load h.
    subst (λ (x : Path). IsOnWay state.hash load (view_at a 0) x id) (sym g.split)
    (way_in state.hash load (view_at a 0) g.front c p id (loaded_along a links 0 g.front k links.some g.walked) (subst (λ (x : View). IsOnWay state.hash load x (c ∷ p) id) (sym (there a links 0 g.front k g.walked)) h))))

-- a directory that was loaded to the end of the list
pub pushed_view : (state : StoreState) (a a2 : List Place) (item : Option Item) (inner : ℕ) (links : AreLinked a) (u : Pushes state a item a2 inner) → view_at a2 inner ≡ only u.place.names
pushed_view state a a2 item inner links u = ap₂ view_at u.is_more u.is_last ∙ new_view a links u.place u.loaded.none_inside

-- a refusal in a directory that was loaded for the name
pub refused_into : (state : StoreState) (a : List Place) (k : ℕ) (n : List ℕ) (p : Place) (loaded : IsLoaded state (name_at (slice_get a k) n) p) (fresh : inner_at (slice_get a k) n ≡ None) (path : Path) (error : EditError) → WayRefused state (only p.names) path error → WayRefused state (view_at a k) (n ∷ path) error
refused_into state a k n p loaded fresh path error = refused_more state (view_at a k) (only p.names) (n ∷ path) path error (λ id. where_both state (λ load names h.
    way_into state.hash load (view_at a k) n p.names path id (not_loaded a k n fresh) (names ∙ ap (names_for state.hash load) (sym (item_there a k n))) h) loaded.names)

-- the directory of the name itself is not loaded
pub refused_load : (state : StoreState) (a : List Place) (k : ℕ) (n c : List ℕ) (rest p : Path) (error : EditError) → inner_at (slice_get a k) n ≡ None → rest ≡ c ∷ p → LoadRefused state (name_at (slice_get a k) n) error → WayRefused state (view_at a k) (n ∷ rest) error
refused_load state a k n c rest p error fresh is r =
    subst (λ (x : Path). WayRefused state (view_at a k) (n ∷ x) error) (sym is)
    (refused_here state (view_at a k) n c p error (not_loaded a k n fresh) (subst (λ o. LoadRefused state o error) (sym (item_there a k n)) r))

-- a refusal in a directory that was loaded to the end of the list for the name
pub refused_pushed : (state : StoreState) (a a2 : List Place) (k : ℕ) (n : List ℕ) (inner : ℕ) (links : AreLinked a) (u : Pushes state a (name_at (slice_get a k) n) a2 inner) (fresh : inner_at (slice_get a k) n ≡ None) (path : Path) (error : EditError) → WayRefused state (view_at a2 inner) path error → WayRefused state (view_at a k) (n ∷ path) error
refused_pushed state a a2 k n inner links u fresh path error w =
    refused_into state a k n u.place u.loaded fresh path error (subst (λ (v : View). WayRefused state v path error) (pushed_view state a a2 (name_at (slice_get a k) n) inner links u) w)

pub edit_cause : (state : StoreState) (v : View) (path : Path) (error : EditError) → has_empty_name path ≡ false → WayRefused state v path error → EditCauses state v path error
edit_cause state v path edit_error.NoMemory named h = named
edit_cause state v path error named (inl e) = absurd (cc)
edit_cause state v path edit_error.EmptyPathComponent named (inr h) = absurd h.2
edit_cause state v path error named (inr h) = (named, h.0, h.1, h.2)

pub drop_cause : (state : StoreState) (spare : Bool) (v : View) (path : Path) (error : EditError) → has_empty_name path ≡ false → DropRefused state spare v path error → DropCauses state spare v path error
drop_cause state false v path error named (inl w) = edit_cause state v path error named w
drop_cause state false v path error named (inr h) = absurd (true≢false (sym h.1))
drop_cause state true v path edit_error.IsTree named (inl (inl e)) = absurd (cc)
drop_cause state true v path edit_error.IsTree named (inl (inr h)) = absurd h.2
drop_cause state true v path edit_error.IsTree named (inr h) = (named, h.2)
drop_cause state true v path error named (inl w) = edit_cause state v path error named w
drop_cause state true v path error named (inr h) = absurd (let e = h.0 in cc)
