-- A path is descended, name by name.
use Rattle.std.proofs.Common.{◌≡◌, ◌∙◌, ◌<◌, sym, ap, refl, subst, List, [], ◌∷◌, ◌++◌, ℕ, true, false, None, length, append_assoc, arith}
use Rattle.std.specs.Prelude.{slice_get}
use Rattle.gx_hash.specs.declared.oid.ObjectId.{ObjectId}
use Rattle.gx_store.specs.State.{StoreState}
use Rattle.gx_edit.specs.Path.{Path}
use Rattle.gx_edit.specs.View.{Names, View, WhereLoaded, leads, opened_along}
use Rattle.gx_edit.specs.EditorCauses.{IsOnWay}
use Rattle.gx_edit.specs.Nodes.{Place, AreLinked, Keeps, KeepsOthers, Opens, Descends, Leads, Stops, IsLedAlong, LoadRefused, WayRefused, name_at, inner_at, view_at, view_in}
use Rattle.gx_edit.specs.declared.error.EditError.{EditError}
use Rattle.gx_edit.proofs.NodeLemmas.{there}
use Rattle.gx_edit.proofs.OpeningLemmas.{IsAlong, along_start, along_more, along_done, where_both, where_all, item_there, not_loaded}
use Rattle.gx_edit.proofs.RemoveLemmas.{led_more, stops}
use Rattle.gx_edit.proofs.WayLemmas.{way_along, refused_here, refused_more}

-- the directories up to the rest of a path are loaded
pub record Descending (state : StoreState) (old : List Place) (from : ℕ) (path : Path) (now : List Place) (at : ℕ) (rest : Path) : Type 0 where
  pub done : Path
  pub split : path ≡ done ++ rest
  pub along : IsAlong state old from now at done

abbrev pub descending_start : (state : StoreState) (a : List Place) (from : ℕ) (path : Path) → AreLinked a → from < length a → ((n : List ℕ) → inner_at (slice_get a from) n ≡ None) → Descending state a from path a from path
descending_start state a from path links less none = record { done = []; split = refl; along = along_start state a from links less none }

module _ (state : StoreState) (old : List Place) (from : ℕ) (path : Path) (now : List Place) (at : ℕ) (rest : Path) (d : Descending state old from path now at rest) where
  pub next_split : (n : List ℕ) (more : Path) → rest ≡ n ∷ more → path ≡ d.done ++ n ∷ more
  next_split n more is = d.split ∙ ap (λ (x : Path). d.done ++ x) is

  abbrev pub descending_more : (next : List Place) (inner : ℕ) (n : List ℕ) (more : Path) → rest ≡ n ∷ more → from < length old → Opens state now at n next inner → Descending state old from path next inner more
  descending_more next inner n more is less o = record {
    done = d.done ++ n ∷ [];
    split = next_split n more is ∙ sym (append_assoc d.done (n ∷ []) more);
    along = along_more state old from now next at inner d.done n less d.along o;
  }

  abbrev pub descending_done : (end : List ℕ) → rest ≡ end ∷ [] → Descends state old from path now at end
  descending_done end is = along_done state old from now at d.done path end (next_split end [] is) d.along

  pub descending_keeps : (next : List Place) → Keeps now next → KeepsOthers old from next
  descending_keeps next k = record {
    len = (let x = d.along.len in let y = k.len in omega (arith, x, y));
    kept = λ i less ne. k.same i (let x = d.along.len in omega (arith, x, less)) ∙ d.along.kept i less ne;
  }

  pub descending_refused : (n : List ℕ) (more : Path) (error : EditError) → rest ≡ n ∷ more → (more ≡ [] → ⊥) → LoadRefused state (name_at (slice_get now at) n) error → WayRefused state (view_at old from) path error
  descending_refused n [] error is some r = absurd (some refl)
  descending_refused n (c ∷ p) error is some r =
      refused_more state (view_at old from) (view_at now at) path (n ∷ c ∷ p) error (λ id. where_both state (up id) d.along.along)
      (refused_here state (view_at now at) n c p error (not_loaded now at n (d.along.none_inside n)) (subst (λ o. LoadRefused state o error) (sym (item_there now at n)) r))
    where
      up : (id : ObjectId) (load : ObjectId → Names) → view_at now from ≡ opened_along state.hash load (view_at old from) d.done → IsOnWay state.hash load (view_at now at) (n ∷ c ∷ p) id → IsOnWay state.hash load (view_at old from) path id
      up id load along h =
          subst (λ (x : Path). IsOnWay state.hash load (view_at old from) x id) (sym (next_split n (c ∷ p) is))
          (way_along state.hash load (view_at old from) d.done n (c ∷ p) id
          (subst (λ (x : View). IsOnWay state.hash load x (n ∷ c ∷ p) id) (sym (there now d.along.links from d.done at d.along.walked) ∙ ap (λ (v : View). view_in v d.done) along) h))

pub descends_others : (state : StoreState) (old : List Place) (from : ℕ) (path : Path) (new : List Place) (at : ℕ) (end : List ℕ) → Descends state old from path new at end → KeepsOthers old from new
descends_others state old from path new at end d = record { len = d.len; kept = d.kept }

-- ---- removals

-- the directories up to the rest of a path are loaded, and each is one in the directory above
pub record Reaching (state : StoreState) (old : List Place) (from : ℕ) (path : Path) (now : List Place) (at : ℕ) (rest : Path) : Type 0 where
  pub way : Descending state old from path now at rest
  pub led : WhereLoaded state (λ load. IsLedAlong state.hash load (view_at old from) way.done)

pub reaching_start : (state : StoreState) (a : List Place) (from : ℕ) (path : Path) → AreLinked a → from < length a → ((n : List ℕ) → inner_at (slice_get a from) n ≡ None) → Reaching state a from path a from path
reaching_start state a from path links less none = record { way = descending_start state a from path links less none; led = where_all state (λ load. tt) }

module _ (state : StoreState) (old : List Place) (from : ℕ) (path : Path) (now : List Place) (at : ℕ) (rest : Path) (r : Reaching state old from path now at rest) where
  pub reaching_more : (next : List Place) (inner : ℕ) (n : List ℕ) (more : Path) → rest ≡ n ∷ more → from < length old → leads (name_at (slice_get now at) n) ≡ true → Opens state now at n next inner → Reaching state old from path next inner more
  reaching_more next inner n more is less tree o = record {
    way = descending_more state old from path now at rest r.way next inner n more is less o;
    led = led_more state old from now at r.way.done n r.way.along r.led tree;
  }

  pub reaching_done : (end : List ℕ) → rest ≡ end ∷ [] → Leads state old from path now at end
  reaching_done end is = record { way = descending_done state old from path now at rest r.way end is; led = r.led }

  pub reaching_stops : (n : List ℕ) (more : Path) → rest ≡ n ∷ more → (more ≡ [] → ⊥) → leads (name_at (slice_get now at) n) ≡ false → Stops state old from path now
  reaching_stops n more is some none = stops state old from now at r.way.done path n more r.way.along r.led (next_split state old from path now at rest r.way n more is) some none
