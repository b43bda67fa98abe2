-- What stands at a path is taken away.
use Rattle.std.proofs.Common.{◌≡◌, ◌∙◌, ◌<◌, inl, inr, sym, ap, refl, subst, cond, List, [], ◌∷◌, ◌++◌, ℕ, Bool, true, false, Some, None, length, arith}
use Rattle.std.specs.Prelude.{slice_get}
use Rattle.std.specs.FinMap.{remove}
use Rattle.gx_hash.specs.declared.kind.HashKind.{HashKind}
use Rattle.gx_hash.specs.declared.oid.ObjectId.{ObjectId}
use Rattle.gx_store.specs.State.{StoreState}
use Rattle.gx_edit.specs.Path.{Path}
use Rattle.gx_edit.specs.Nodes.{Place, Changes, Goes, Makes, Edits, Leads, Stops, Pushes, IsLedAlong, DropRefused, name_at, inner_at, walk, view_at, AreLinked, taken, linked, view_in, with_in}
use Rattle.gx_edit.specs.View.{Names, View, WhereLoaded, only, below, with_below, with_root, item_in, leads, names_for, with_tree, new_tree, opened, opened_along, removed}
use Rattle.gx_edit.specs.EditorCauses.{IsTreeAt, entry_at}
use Rattle.gx_edit.specs.declared.error.EditError.{EditError}
use Rattle.gx_edit.proofs.LinkLemmas.{taken_leaves, still_linked}
use Rattle.gx_edit.proofs.NodeLemmas.{changed, loaded_along, there}
use Rattle.gx_edit.proofs.OpeningLemmas.{IsAlong, where_map, where_both, where_all, name_changed, opens_anew, not_loaded, item_there}
use Rattle.gx_edit.proofs.PushLemmas.{links_below}
use Rattle.gx_edit.proofs.UpsertLemmas.{not_last}
use Rattle.gx_edit.proofs.ViewLemmas.{below_put, put_again, next_removed, removed_along, removed_in, removed_stops, led_further}
use Rattle.gx_edit.proofs.WayLemmas.{entry_along, entry_in, entry_into, entry_stops, pushed_view, refused_along, refused_pushed}

-- a directory just below one where its name is not loaded is opened, and the rest of the path removed there
opened_drop : (hash : HashKind) (load : ObjectId → Names) (v : View) (n : List ℕ) (names : Names) (path : Path) (c : List ℕ) (p : Path) → path ≡ c ∷ p → leads (item_in (v []) n) ≡ true → v (n ∷ []) ≡ None → names ≡ names_for hash load (item_in (v []) n)
    → with_below (with_root v (with_tree hash load n)) n (removed hash load (only names) path) ≡ removed hash load v (n ∷ path)
opened_drop hash load v n names path c p is led none own =
    let r : View = with_root v (with_tree hash load n) in
    let o : opened hash load v n ≡ with_below r n (only names) = opens_anew hash load v n none ∙ ap (λ (x : Names). with_below r n (only x)) (sym own) in
    ap (λ (x : Path). with_below r n (removed hash load (only names) x)) is
    ∙ sym (next_removed hash load v n c p led
    ∙ ap (λ (w : View). with_below w n (removed hash load (below w n) (c ∷ p))) o
    ∙ put_again r n (only names) (removed hash load (below (with_below r n (only names)) n) (c ∷ p))
    ∙ ap (λ (w : View). with_below r n (removed hash load w (c ∷ p))) (below_put r n (only names)))
    ∙ ap (λ (x : Path). removed hash load v (n ∷ x)) (sym is)

abbrev pub Drops : StoreState → List Place → ℕ → Path → List Place → Type 0
Drops state old at path new = Makes state old at (λ load. removed state.hash load (view_at old at) path) new

-- what a directory has at a name, as the view from above has it
seen_along : (hash : HashKind) (load : ObjectId → Names) (v : View) (now : List Place) (links : AreLinked now) (from at : ℕ) (done : Path) (n : List ℕ) → walk now from done ≡ Some at → view_at now from ≡ opened_along hash load v done → item_in (view_in (opened_along hash load v done) done []) n ≡ name_at (slice_get now at) n
seen_along hash load v now links from at done n walked along =
    ap (λ (x : View). item_in (view_in x done []) n) (sym along)
    ∙ ap (λ (x : View). item_in (x []) n) (there now links from done at walked)
    ∙ item_there now at n

-- ---- along the way

pub led_more : (state : StoreState) (old : List Place) (from : ℕ) (now : List Place) (at : ℕ) (done : Path) (n : List ℕ) → IsAlong state old from now at done → WhereLoaded state (λ load. IsLedAlong state.hash load (view_at old from) done) → leads (name_at (slice_get now at) n) ≡ true
    → WhereLoaded state (λ load. IsLedAlong state.hash load (view_at old from) (done ++ n ∷ []))
led_more state old from now at done n s led is = where_both state (λ load along l.
    led_further state.hash load (view_at old from) done n l (ap leads (seen_along state.hash load (view_at old from) now s.links from at done n s.walked along) ∙ is)) s.along led

-- the way ends at a name that is no directory's
pub stops : (state : StoreState) (old : List Place) (from : ℕ) (now : List Place) (at : ℕ) (done path : Path) (n : List ℕ) (more : Path) → IsAlong state old from now at done → WhereLoaded state (λ load. IsLedAlong state.hash load (view_at old from) done) → path ≡ done ++ n ∷ more → (more ≡ [] → ⊥) → leads (name_at (slice_get now at) n) ≡ false
    → Stops state old from path now
stops state old from now at done path n [] s led split some none = absurd (some refl)
stops state old from now at done path n (c ∷ p) s led split some none = record {
  makes = record {
    links = s.links;
    len = s.len;
    kept = s.kept;
    view = where_both state (λ load along l.
        along
        ∙ sym (removed_stops state.hash load (view_at old from) done n c p l (ap leads (seen_along state.hash load (view_at old from) now s.links from at done n s.walked along) ∙ none))
        ∙ ap (removed state.hash load (view_at old from)) (sym split)) s.along led;
  };
  nothing = where_both state (λ load along l.
      ap (entry_at state.hash load (view_at old from)) split
      ∙ entry_along state.hash load (view_at old from) done n (c ∷ p) l
      ∙ entry_stops state.hash load (view_in (opened_along state.hash load (view_at old from) done) done) n c p (ap leads (seen_along state.hash load (view_at old from) now s.links from at done n s.walked along) ∙ none)) s.along led;
}

-- ---- in the last directory of the way

module _ (state : StoreState) (a a2 : List Place) (from : ℕ) (path : Path) (last : ℕ) (end : List ℕ) (w : Leads state a from path a2 last end) where
  pub drops_inside : (a3 : List Place) → from < length a → Changes a2 last (taken end) a3 → Drops state a from path a3
  drops_inside a3 less c = record {
    links = still_linked a2 a3 w.way.links last end (taken end) c (taken_leaves end);
    len = (let x = w.way.len in let y = c.len in omega (arith, x, y));
    kept = λ i within ne. c.others i (not_last a from path a2 last end w.way i within ne) ∙ w.way.kept i within ne;
    view = where_both state inside w.way.along w.led;
  }
    where
      inside : (load : ObjectId → Names) → view_at a2 from ≡ opened_along state.hash load (view_at a from) w.way.front → IsLedAlong state.hash load (view_at a from) w.way.front → view_at a3 from ≡ removed state.hash load (view_at a from) path
      inside load along led =
          (λ j q. changed a2 w.way.links a3 last (λ i ne within. c.others i ne) from w.way.front (let x = w.way.len in omega (arith, x, less)) w.way.walked q j)
          ∙ ap (with_in (view_at a2 from) w.way.front) (name_changed a2 a3 w.way.links last end (taken end) (λ names. remove names end) c (taken_leaves end) (λ x. refl) w.way.within
          ∙ ap (λ (v : View). removed state.hash load v (end ∷ [])) (sym (there a2 w.way.links from w.way.front last w.way.walked)))
          ∙ ap (λ (v : View). with_in v w.way.front (removed state.hash load (view_in v w.way.front) (end ∷ []))) along
          ∙ sym (removed_along state.hash load (view_at a from) w.way.front end [] led)
          ∙ ap (removed state.hash load (view_at a from)) (sym w.way.split)

  -- what stands at the path stands in that directory
  pub tree_inside : (answer : Bool) → leads (name_at (slice_get a2 last) end) ≡ answer → IsTreeAt state (view_at a from) path answer
  tree_inside answer is = where_both state (λ load along led.
      ap (λ (x : Path). leads (entry_at state.hash load (view_at a from) x)) w.way.split
      ∙ ap leads (entry_along state.hash load (view_at a from) w.way.front end [] led ∙ seen_along state.hash load (view_at a from) a2 w.way.links from last w.way.front end w.way.walked along)
      ∙ is) w.way.along w.led

pub stops_spare : (state : StoreState) (a a2 : List Place) (from : ℕ) (path : Path) → Stops state a from path a2 → IsTreeAt state (view_at a from) path false
stops_spare state a a2 from path s = where_map state (λ load none. ap leads none) s.nothing

-- ---- below a directory that is loaded for it

module _ (state : StoreState) (a : List Place) (k : ℕ) (n : List ℕ) (path : Path) (c : List ℕ) (p : Path) (some : path ≡ c ∷ p) where
  -- nothing stands there where the name is no directory's
  pub drops_nothing : AreLinked a → leads (name_at (slice_get a k) n) ≡ false → Drops state a k (n ∷ path) a
  drops_nothing links none = record {
    links = links;
    len = omega arith;
    kept = λ i within ne. refl;
    view = where_all state (λ load.
        sym (ap (λ (x : Path). removed state.hash load (view_at a k) (n ∷ x)) some
        ∙ ap (λ t. cond t (with_below (opened state.hash load (view_at a k) n) n (removed state.hash load (below (opened state.hash load (view_at a k) n) n) (c ∷ p))) (view_at a k)) (ap leads (item_there a k n) ∙ none)));
  }

  pub nothing_spared : leads (name_at (slice_get a k) n) ≡ false → IsTreeAt state (view_at a k) (n ∷ path) false
  nothing_spared none = where_all state (λ load.
      ap (λ (x : Path). leads (entry_at state.hash load (view_at a k) (n ∷ x))) some
      ∙ ap leads (entry_stops state.hash load (view_at a k) n c p (ap leads (item_there a k n) ∙ none)))

  module _ (a2 : List Place) (inner : ℕ) (links : AreLinked a) (u : Pushes state a (name_at (slice_get a k) n) a2 inner) (led : leads (name_at (slice_get a k) n) ≡ true) (fresh : inner_at (slice_get a k) n ≡ None) where
    pub drops_below : (a3 b : List Place) → k < length a → Drops state a2 inner path a3 → Changes a3 k (linked n inner (new_tree state.hash)) b → Drops state a k (n ∷ path) b
    drops_below a3 b less m l =
        links_below state a a3 b links k n u.place u.loaded less (λ load v. removed state.hash load v path)
        (subst (λ (x : List Place). Drops state x (length a) path a3) u.is_more (subst (λ (x : ℕ). Drops state a2 x path a3) u.is_last m))
        (subst (λ (x : ℕ). Changes a3 k (linked n x (new_tree state.hash)) b) u.is_last l)
        (λ load. removed state.hash load (view_at a k) (n ∷ path))
        (λ load own. opened_drop state.hash load (view_at a k) n u.place.names path c p some (ap leads (item_there a k n) ∙ led) (not_loaded a k n fresh) own)

    pub tree_below : (answer : Bool) → IsTreeAt state (view_at a2 inner) path answer → IsTreeAt state (view_at a k) (n ∷ path) answer
    tree_below answer h = where_both state (λ load own is.
        ap (λ (x : Path). leads (entry_at state.hash load (view_at a k) (n ∷ x))) some
        ∙ ap leads (entry_into state.hash load (view_at a k) n u.place.names c p (ap leads (item_there a k n) ∙ led) (not_loaded a k n fresh) (own ∙ ap (names_for state.hash load) (sym (item_there a k n))))
        ∙ ap (λ (x : Path). leads (entry_at state.hash load (only u.place.names) x)) (sym some)
        ∙ ap (λ (v : View). leads (entry_at state.hash load v path)) (sym (pushed_view state a a2 (name_at (slice_get a k) n) inner links u))
        ∙ is) u.loaded.names h

    pub drop_refused_below : (spare : Bool) (error : EditError) → DropRefused state spare (view_at a2 inner) path error → DropRefused state spare (view_at a k) (n ∷ path) error
    drop_refused_below spare error (inl w) = inl (refused_pushed state a a2 k n inner links u fresh path error w)
    drop_refused_below spare error (inr h) = inr (h.0, h.1, tree_below true h.2)

-- ---- in a directory that is loaded

pub drops_here : (state : StoreState) (a b : List Place) (k : ℕ) (n : List ℕ) → AreLinked a → k < length a → Changes a k (taken n) b → Drops state a k (n ∷ []) b
drops_here state a b k n links less c = record {
  links = still_linked a b links k n (taken n) c (taken_leaves n);
  len = (let x = c.len in omega (arith, x));
  kept = λ i within ne. c.others i ne;
  view = where_all state (λ load. name_changed a b links k n (taken n) (λ names. remove names n) c (taken_leaves n) (λ p. refl) less);
}

pub tree_here : (state : StoreState) (a : List Place) (k : ℕ) (n : List ℕ) (answer : Bool) → leads (name_at (slice_get a k) n) ≡ answer → IsTreeAt state (view_at a k) (n ∷ []) answer
tree_here state a k n answer is = where_all state (λ load. ap leads (item_there a k n) ∙ is)

module _ (state : StoreState) (a : List Place) (links : AreLinked a) (path : Path) (k : ℕ) (c : List ℕ) (p : Path) (f : Goes a path k (c ∷ p)) where
  pub drops_along : (b : List Place) → Drops state a k (c ∷ p) b → Edits state a (λ load. removed state.hash load (view_at a 0) path) b
  drops_along b drops = record { links = drops.links; view = where_map state go drops.view }
    where
      go : (load : ObjectId → Names) → view_at b k ≡ removed state.hash load (view_at a k) (c ∷ p) → view_at b 0 ≡ removed state.hash load (view_at a 0) path
      go load made =
          (λ j q. changed a links b k (λ i ne within. drops.kept i within ne) 0 f.front links.some f.walked q j)
          ∙ ap (with_in (view_at a 0) f.front) (made ∙ ap (λ (v : View). removed state.hash load v (c ∷ p)) (sym (there a links 0 f.front k f.walked)))
          ∙ sym (removed_in state.hash load (view_at a 0) f.front c p (loaded_along a links 0 f.front k links.some f.walked))
          ∙ ap (removed state.hash load (view_at a 0)) (sym f.split)

  pub tree_along : (answer : Bool) → IsTreeAt state (view_at a k) (c ∷ p) answer → IsTreeAt state (view_at a 0) path answer
  tree_along answer h = where_map state (λ load is.
      ap (λ (x : Path). leads (entry_at state.hash load (view_at a 0) x)) f.split
      ∙ ap leads (entry_in state.hash load (view_at a 0) f.front c p (loaded_along a links 0 f.front k links.some f.walked))
      ∙ ap (λ (v : View). leads (entry_at state.hash load v (c ∷ p))) (there a links 0 f.front k f.walked)
      ∙ is) h

  pub drop_refused_along : (spare : Bool) (error : EditError) → DropRefused state spare (view_at a k) (c ∷ p) error → DropRefused state spare (view_at a 0) path error
  drop_refused_along spare error (inl w) = inl (refused_along state a links path k c p error f w)
  drop_refused_along spare error (inr h) = inr (h.0, h.1, tree_along true h.2)
