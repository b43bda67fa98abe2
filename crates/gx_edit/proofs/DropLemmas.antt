-- What the calls answer that take something away at a path.
use Rattle.std.proofs.Common.{◌≡◌, ◌<◌, inl, inr, refl, cond, List, [], ◌∷◌, ℕ, Bool, true, false, length}
use Rattle.std.specs.Prelude.{slice_get, Result, Ok, Err, OnOk, OnErr, IfErr}
use Rattle.std.proofs.lemmas.Result.{on_ok_weaker}
use Rattle.gx_store.specs.State.{StoreState}
use Rattle.gx_edit.specs.Path.{Path}
use Rattle.gx_edit.specs.PathList.{has_empty_name}
use Rattle.gx_edit.specs.Nodes.{Place, Changes, Keeps, KeepsOthers, Goes, Edits, Leads, Stops, Spares, WayRefused, DropRefused, DropCauses, name_at, view_at, AreLinked, taken}
use Rattle.gx_edit.specs.View.{View, WhereLoaded, leads, removed}
use Rattle.gx_edit.specs.EditorCauses.{IsTreeAt}
use Rattle.gx_edit.specs.declared.error.EditError.{EditError}
use Rattle.gx_edit.specs.declared.error.EditError.TheVariants as edit_error
use Rattle.gx_edit.proofs.DescendLemmas.{descends_others}
use Rattle.gx_edit.proofs.PushLemmas.{keeps_same, others_then}
use Rattle.gx_edit.proofs.RemoveLemmas.{Drops, drops_inside, tree_inside, drops_here, tree_here, drops_along, tree_along, drop_refused_along}

-- a directory is spared where one stands at the name and directories are spared
pub spared_so : (spare t : Bool) → cond spare t false ≡ true → (spare ≡ true) × (t ≡ true)
spared_so true t e = (refl, e)
spared_so false t e = cc

pub spared_not : (spare t : Bool) → cond spare t false ≡ false → spare ≡ true → t ≡ false
spared_not true t e is = e
spared_not false t e is = cc

-- what is refused at a name since a directory stands there
abbrev pub IsSpared : Bool → List Place → ℕ → List ℕ → EditError → Type 0
IsSpared spare a k n error = (error ≡ edit_error.IsTree) × (spare ≡ true) × (leads (name_at (slice_get a k) n) ≡ true)

-- what holds at a name where directories are spared
abbrev pub IsFree : Bool → List Place → ℕ → List ℕ → Type 0
IsFree spare a k n = spare ≡ true → leads (name_at (slice_get a k) n) ≡ false

pub kept_all : {T E : Type 0} (r : Result T E) (a b : List Place) → OnErr r (b ≡ a) → OnErr r (Keeps a b)
kept_all (Ok x) a b h = tt
kept_all (Err e) a b h = keeps_same a b h

-- a refusal on the way is one of the removal
pub way_refused : {T : Type 0} (r : Result T EditError) (state : StoreState) (spare : Bool) (v : View) (path : Path) → IfErr r (WayRefused state v path) → IfErr r (DropRefused state spare v path)
way_refused (Ok x) state spare v path h = tt
way_refused (Err e) state spare v path h = inl h

-- ---- in the last directory of the way

pub leads_within : (state : StoreState) (a : List Place) (from : ℕ) (path : Path) (a2 : List Place) (last : ℕ) (end : List ℕ) → Leads state a from path a2 last end → last < length a2
leads_within state a from path a2 last end w = w.way.within

pub stops_makes : (state : StoreState) (a : List Place) (from : ℕ) (path : Path) (a2 : List Place) → Stops state a from path a2 → Drops state a from path a2
stops_makes state a from path a2 s = s.makes

module _ {T : Type 0} (r : Result T EditError) (state : StoreState) (a a2 : List Place) (from : ℕ) (path : Path) (last : ℕ) (end : List ℕ) (w : Leads state a from path a2 last end) where
  pub inside_ok : (a3 : List Place) → from < length a → OnOk r (Changes a2 last (taken end) a3) → OnOk r (Drops state a from path a3)
  inside_ok a3 less h = on_ok_weaker r (λ (c : Changes a2 last (taken end) a3). drops_inside state a a2 from path last end w a3 less c) h

  pub inside_spared : (spare : Bool) → OnOk r (IsFree spare a2 last end) → OnOk r (Spares state spare (view_at a from) path)
  inside_spared spare h = on_ok_weaker r (λ (f : IsFree spare a2 last end) is. tree_inside state a a2 from path last end w false (f is)) h

  pub inside_err : (a3 : List Place) → OnErr r (a3 ≡ a2) → OnErr r (KeepsOthers a from a3)
  inside_err a3 h = go r h
    where
      go : (r : Result T EditError) → OnErr r (a3 ≡ a2) → OnErr r (KeepsOthers a from a3)
      go (Ok x) h = tt
      go (Err e) h = others_then a a2 a3 from (descends_others state a from path a2 last end w.way) h

  pub inside_refused : (spare : Bool) → IfErr r (IsSpared spare a2 last end) → IfErr r (DropRefused state spare (view_at a from) path)
  inside_refused spare h = go r h
    where
      go : (r : Result T EditError) → IfErr r (IsSpared spare a2 last end) → IfErr r (DropRefused state spare (view_at a from) path)
      go (Ok x) h = tt
      go (Err e) h = inr (h.0, h.1, tree_inside state a a2 from path last end w true h.2)

-- ---- in a directory that the path leads to

module _ {T : Type 0} (r : Result T EditError) (state : StoreState) (a : List Place) (links : AreLinked a) (path : Path) (k : ℕ) (c : List ℕ) (p : Path) (f : Goes a path k (c ∷ p)) where
  pub along_ok : (b : List Place) → OnOk r (Drops state a k (c ∷ p) b) → OnOk r (Edits state a (λ load. removed state.hash load (view_at a 0) path) b)
  along_ok b h = on_ok_weaker r (λ (d : Drops state a k (c ∷ p) b). drops_along state a links path k c p f b d) h

  pub along_spared : (spare : Bool) → OnOk r (Spares state spare (view_at a k) (c ∷ p)) → OnOk r (Spares state spare (view_at a 0) path)
  along_spared spare h = on_ok_weaker r (λ (s : Spares state spare (view_at a k) (c ∷ p)) is. tree_along state a links path k c p f false (s is)) h

  pub along_refused : (spare : Bool) → IfErr r (DropRefused state spare (view_at a k) (c ∷ p)) → IfErr r (DropRefused state spare (view_at a 0) path)
  along_refused spare h = go r h
    where
      go : (r : Result T EditError) → IfErr r (DropRefused state spare (view_at a k) (c ∷ p)) → IfErr r (DropRefused state spare (view_at a 0) path)
      go (Ok x) h = tt
      go (Err e) h = drop_refused_along state a links path k c p f spare e h

module _ {T : Type 0} (r : Result T EditError) (state : StoreState) (a : List Place) (links : AreLinked a) (path : Path) (k : ℕ) (n : List ℕ) (f : Goes a path k (n ∷ [])) where
  pub here_ok : (b : List Place) → OnOk r (Changes a k (taken n) b) → OnOk r (Edits state a (λ load. removed state.hash load (view_at a 0) path) b)
  here_ok b h = on_ok_weaker r (λ (c : Changes a k (taken n) b). drops_along state a links path k n [] f b (drops_here state a b k n links f.within c)) h

  pub here_spared : (spare : Bool) → OnOk r (IsFree spare a k n) → OnOk r (Spares state spare (view_at a 0) path)
  here_spared spare h = on_ok_weaker r (λ (s : IsFree spare a k n) is. tree_along state a links path k n [] f false (tree_here state a k n false (s is))) h

  pub here_refused : (spare : Bool) → IfErr r (IsSpared spare a k n) → IfErr r (DropRefused state spare (view_at a 0) path)
  here_refused spare h = go r h
    where
      go : (r : Result T EditError) → IfErr r (IsSpared spare a k n) → IfErr r (DropRefused state spare (view_at a 0) path)
      go (Ok x) h = tt
      go (Err e) h = inr (h.0, h.1, tree_along state a links path k n [] f true (tree_here state a k n true h.2))

-- ---- from the root on

pub empty_cause : (state : StoreState) (spare : Bool) (v : View) (path : Path) → has_empty_name path ≡ true → DropCauses state spare v path edit_error.EmptyPathComponent
empty_cause state true v path is = is
empty_cause state false v path is = is

pub dropped_view : {T E : Type 0} (r : Result T E) (state : StoreState) (a b : List Place) (path : Path) → OnOk r (Edits state a (λ load. removed state.hash load (view_at a 0) path) b) → OnOk r (WhereLoaded state (λ load. view_at b 0 ≡ removed state.hash load (view_at a 0) path))
dropped_view r state a b path h = on_ok_weaker r (λ (e : Edits state a (λ load. removed state.hash load (view_at a 0) path) b). e.view) h

pub leaf_dropped : {T E : Type 0} (r : Result T E) (state : StoreState) (v : View) (path : Path) → OnOk r (Spares state true v path) → OnOk r (IsTreeAt state v path false)
leaf_dropped r state v path h = on_ok_weaker r (λ (s : Spares state true v path). s refl) h
