-- An item that is put at a path.
use Rattle.std.proofs.Common.{◌≡◌, ◌≢◌, ◌∙◌, ◌<◌, sym, ap, refl, subst, List, [], ◌∷◌, ◌++◌, ℕ, Bool, true, false, ◌==◌, eqb-true, Some, None, length, append_assoc, arith}
use Rattle.std.proofs.lemmas.Bool.{eqb-false}
use Rattle.std.specs.Prelude.{slice_get, Result, Ok, Err, OnOk, IfErr}
use Rattle.std.proofs.lemmas.Result.{on_ok_weaker}
use Rattle.gx_edit.specs.declared.error.EditError.{EditError}
use Rattle.gx_edit.proofs.WayLemmas.{refused_along}
use Rattle.std.specs.FinMap.{insert}
use Rattle.gx_hash.specs.declared.kind.HashKind.{HashKind}
use Rattle.gx_hash.specs.declared.oid.ObjectId.{ObjectId}
use Rattle.gx_store.specs.State.{StoreState}
use Rattle.gx_edit.specs.Path.{Path}
use Rattle.gx_edit.specs.Nodes.{Place, Changes, Goes, Follows, Makes, Edits, Descends, Pushes, WayRefused, name_at, inner_at, view_at, AreLinked, put, linked, view_in, with_in}
use Rattle.gx_edit.specs.View.{Names, View, WhereLoaded, only, below, with_below, with_root, item_in, names_for, with_tree, new_tree, opened, opened_along, upserted}
use Rattle.gx_edit.specs.declared.editor.item.Item.{Item}
use Rattle.gx_edit.proofs.LinkLemmas.{put_leaves, still_linked}
use Rattle.gx_edit.proofs.NodeLemmas.{changed, walk_more, loaded_along, there}
use Rattle.gx_edit.proofs.OpeningLemmas.{where_map, where_all, name_changed, opens_anew, not_loaded}
use Rattle.gx_edit.proofs.PushLemmas.{links_below}
use Rattle.gx_edit.proofs.ViewLemmas.{below_put, put_again, upserted_along, upserted_in}

-- a directory just below one where its name is not loaded is opened, and the item put there
opened_put : (hash : HashKind) (load : ObjectId → Names) (v : View) (n : List ℕ) (names : Names) (path : Path) (c : List ℕ) (p : Path) (item : Item) → path ≡ c ∷ p → v (n ∷ []) ≡ None → names ≡ names_for hash load (item_in (v []) n)
    → with_below (with_root v (with_tree hash load n)) n (upserted hash load (only names) path item) ≡ upserted hash load v (n ∷ path) item
opened_put hash load v n names path c p item is none own =
    let r : View = with_root v (with_tree hash load n) in
    let o : opened hash load v n ≡ with_below r n (only names) = opens_anew hash load v n none ∙ ap (λ (x : Names). with_below r n (only x)) (sym own) in
    ap (λ (x : Path). with_below r n (upserted hash load (only names) x item)) is
    ∙ sym (ap (λ (w : View). with_below w n (upserted hash load (below w n) (c ∷ p) item)) o
    ∙ put_again r n (only names) (upserted hash load (below (with_below r n (only names)) n) (c ∷ p) item)
    ∙ ap (λ (w : View). with_below r n (upserted hash load w (c ∷ p) item)) (below_put r n (only names)))
    ∙ ap (λ (x : Path). upserted hash load v (n ∷ x) item) (sym is)

abbrev pub Puts : StoreState → List Place → ℕ → Path → Item → List Place → Type 0
Puts state old at path item new = Makes state old at (λ load. upserted state.hash load (view_at old at) path item) new

-- the last directory of the way is the first one, or came since
pub not_last : {state : StoreState} (a : List Place) (from : ℕ) (path : Path) (a2 : List Place) (last : ℕ) (end : List ℕ) → Descends state a from path a2 last end → (i : ℕ) → i < length a → i ≢ from → i ≢ last
not_last a from path a2 last end d i within ne is = go (last == from) refl
  where
    go : (t : Bool) → (last == from) ≡ t → ⊥
    go true t = ne (is ∙ eqb-true last from t)
    go false t = let far = d.later (eqb-false last from t) in omega (arith, far, within, is)

-- the item is put in the last directory of the way
pub puts_inside : (state : StoreState) (a a2 a3 : List Place) (from : ℕ) (path : Path) (last : ℕ) (end : List ℕ) (item : Item) → from < length a → Descends state a from path a2 last end → Changes a2 last (put end item) a3 → Puts state a from path item a3
puts_inside state a a2 a3 from path last end item less d c = record {
  links = still_linked a2 a3 d.links last end (put end item) c (put_leaves end item);
  len = (let x = d.len in let y = c.len in omega (arith, x, y));
  kept = λ i within ne. c.others i (past i within ne) ∙ d.kept i within ne;
  view = where_map state inside d.along;
}
  where
    past : (i : ℕ) → i < length a → i ≢ from → i ≢ last
    past i within ne is = not_last a from path a2 last end d i within ne is

    inside : (load : ObjectId → Names) → view_at a2 from ≡ opened_along state.hash load (view_at a from) d.front → view_at a3 from ≡ upserted state.hash load (view_at a from) path item
    inside load along =
        (λ j q. changed a2 d.links a3 last (λ i ne within. c.others i ne) from d.front (let x = d.len in omega (arith, x, less)) d.walked q j)
        ∙ ap (with_in (view_at a2 from) d.front) (name_changed a2 a3 d.links last end (put end item) (λ names. insert names end item) c (put_leaves end item) (λ x. refl) d.within
        ∙ ap (λ (v : View). upserted state.hash load v (end ∷ []) item) (sym (there a2 d.links from d.front last d.walked)))
        ∙ ap (λ (v : View). with_in v d.front (upserted state.hash load (view_in v d.front) (end ∷ []) item)) along
        ∙ sym (upserted_along state.hash load (view_at a from) d.front end item)
        ∙ ap (λ (x : Path). upserted state.hash load (view_at a from) x item) (sym d.split)

-- the item is put below a directory that is loaded for it
pub puts_below : (state : StoreState) (a a2 a3 b : List Place) (links : AreLinked a) (k : ℕ) (n : List ℕ) (inner : ℕ) (less : k < length a) (fresh : inner_at (slice_get a k) n ≡ None) (path : Path) (c : List ℕ) (p : Path) (some : path ≡ c ∷ p) (item : Item)
    → (u : Pushes state a (name_at (slice_get a k) n) a2 inner) → Puts state a2 inner path item a3 → Changes a3 k (linked n inner (new_tree state.hash)) b → Puts state a k (n ∷ path) item b
puts_below state a a2 a3 b links k n inner less fresh path c p some item u m l =
    links_below state a a3 b links k n u.place u.loaded less (λ load v. upserted state.hash load v path item)
    (subst (λ (x : List Place). Puts state x (length a) path item a3) u.is_more (subst (λ (x : ℕ). Puts state a2 x path item a3) u.is_last m))
    (subst (λ (x : ℕ). Changes a3 k (linked n x (new_tree state.hash)) b) u.is_last l)
    (λ load. upserted state.hash load (view_at a k) (n ∷ path) item)
    (λ load own. opened_put state.hash load (view_at a k) n u.place.names path c p item some (not_loaded a k n fresh) own)

-- a name that is put in a directory that is loaded
pub puts_here : (state : StoreState) (a b : List Place) (k : ℕ) (n : List ℕ) (item : Item) → AreLinked a → k < length a → Changes a k (put n item) b → Puts state a k (n ∷ []) item b
puts_here state a b k n item links less c = record {
  links = still_linked a b links k n (put n item) c (put_leaves n item);
  len = (let x = c.len in omega (arith, x));
  kept = λ i within ne. c.others i ne;
  view = where_all state (λ load. name_changed a b links k n (put n item) (λ names. insert names n item) c (put_leaves n item) (λ p. refl) less);
}

-- an edit in a directory that a path leads to is one from the root on
pub edits_along : (state : StoreState) (a b : List Place) (links : AreLinked a) (path : Path) (k : ℕ) (c : List ℕ) (p : Path) (item : Item) → Goes a path k (c ∷ p) → Puts state a k (c ∷ p) item b → Edits state a (λ load. upserted state.hash load (view_at a 0) path item) b
edits_along state a b links path k c p item f puts = record { links = puts.links; view = where_map state go puts.view }
  where
    go : (load : ObjectId → Names) → view_at b k ≡ upserted state.hash load (view_at a k) (c ∷ p) item → view_at b 0 ≡ upserted state.hash load (view_at a 0) path item
    go load made =
        (λ j q. changed a links b k (λ i ne within. puts.kept i within ne) 0 f.front links.some f.walked q j)
        ∙ ap (with_in (view_at a 0) f.front) (made ∙ ap (λ (v : View). upserted state.hash load v (c ∷ p) item) (sym (there a links 0 f.front k f.walked)))
        ∙ sym (upserted_in state.hash load (view_at a 0) f.front c p item (loaded_along a links 0 f.front k links.some f.walked))
        ∙ ap (λ (x : Path). upserted state.hash load (view_at a 0) x item) (sym f.split)

-- the next directory on a path is loaded
pub goes_on : (a : List Place) (links : AreLinked a) (path : Path) (at inner : ℕ) (n : List ℕ) (rest more : Path) → Goes a path at rest → rest ≡ n ∷ more → inner_at (slice_get a at) n ≡ Some inner → Goes a path inner more
goes_on a links path at inner n rest more g is step = record {
  front = g.front ++ n ∷ [];
  walked = walk_more a 0 g.front at inner n g.walked step;
  split = g.split ∙ ap (λ (x : Path). g.front ++ x) is ∙ sym (append_assoc g.front (n ∷ []) more);
  within = (links.within at inner n step).1;
}

pub follows_to : (a : List Place) (path : Path) (at : ℕ) (rest more : Path) (name : List ℕ) → Goes a path at rest → rest ≡ name ∷ more → None ≡ inner_at (slice_get a at) name → Follows a path at rest
follows_to a path at rest more name g is none = record { goes = g; stops = stops }
  where
    stops : (n c : List ℕ) (p : Path) → rest ≡ n ∷ c ∷ p → inner_at (slice_get a at) n ≡ None
    stops n c p e = let same : name ≡ n = cc in ap (inner_at (slice_get a at)) (sym same) ∙ sym none

pub follows_whole : (a : List Place) (path : Path) (at : ℕ) (rest : Path) (name : List ℕ) → Goes a path at rest → rest ≡ name ∷ [] → Follows a path at rest
follows_whole a path at rest name g is = record { goes = g; stops = stops }
  where
    stops : (n c : List ℕ) (p : Path) → rest ≡ n ∷ c ∷ p → inner_at (slice_get a at) n ≡ None
    stops n c p e = let tail : ◌≡◌ {A = Path} [] (c ∷ p) = cc in absurd (cc)

pub goes_start : (a : List Place) (path : Path) → AreLinked a → Goes a path 0 path
goes_start a path links = record { front = []; walked = refl; split = refl; within = links.some }

pub edits_result : {T E : Type 0} (r : Result T E) (state : StoreState) (a b : List Place) (links : AreLinked a) (path : Path) (k : ℕ) (c : List ℕ) (p : Path) (item : Item) → Goes a path k (c ∷ p) → OnOk r (Puts state a k (c ∷ p) item b) → OnOk r (Edits state a (λ load. upserted state.hash load (view_at a 0) path item) b)
edits_result r state a b links path k c p item f h = on_ok_weaker r (edits_along state a b links path k c p item f) h

pub refused_result : {T : Type 0} (r : Result T EditError) (state : StoreState) (a : List Place) (links : AreLinked a) (path : Path) (k : ℕ) (c : List ℕ) (p : Path) → Goes a path k (c ∷ p) → IfErr r (WayRefused state (view_at a k) (c ∷ p)) → IfErr r (WayRefused state (view_at a 0) path)
refused_result (Ok x) state a links path k c p f h = tt
refused_result (Err error) state a links path k c p f h = refused_along state a links path k c p error f h

pub edited_view : {T E : Type 0} (r : Result T E) (state : StoreState) (a b : List Place) (path : Path) (item other : Item) → item ≡ other → OnOk r (Edits state a (λ load. upserted state.hash load (view_at a 0) path item) b) → OnOk r (WhereLoaded state (λ load. view_at b 0 ≡ upserted state.hash load (view_at a 0) path other))
edited_view r state a b path item other is h = on_ok_weaker r (λ (e : Edits state a (λ load. upserted state.hash load (view_at a 0) path item) b). where_map state (λ load v. v ∙ ap (upserted state.hash load (view_at a 0) path) is) e.view) h
