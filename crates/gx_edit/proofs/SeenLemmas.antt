-- What is seen at a path, in the directory that it leads to.
use Rattle.std.proofs.Common.{◌≡◌, ◌∙◌, sym, ap, refl, List, [], ◌∷◌, ◌++◌, ℕ, Option, None, option_map}
use Rattle.std.specs.Prelude.{slice_get}
use Rattle.gx_edit.specs.Path.{Path, components}
use Rattle.gx_edit.specs.Editor.{entry_named, seen, seen_at}
use Rattle.gx_edit.specs.Nodes.{Place, AreLinked, Goes, name_at, inner_at, onward, walk, names_there, view_at, view_in}
use Rattle.gx_edit.specs.View.{Names, View, item_in, below}
use Rattle.gx_edit.proofs.NodeLemmas.{there}
use Rattle.gx_edit.proofs.OpeningLemmas.{item_there}

-- what is seen at a path is seen from each directory on the way
seen_in : (v : View) (d : Path) (c : List ℕ) (p : Path) → seen v (d ++ c ∷ p) ≡ seen (view_in v d) (c ∷ p)
seen_in v [] c p = refl
seen_in v (n ∷ []) c p = refl
seen_in v (n ∷ m ∷ d) c p = seen_in (below v n) (m ∷ d) c p

-- nothing is seen where no directory is loaded
seen_none : (v : View) (p : Path) → ((q : Path) → v q ≡ None) → seen v p ≡ None
seen_none v [] none = refl
seen_none v (n ∷ []) none = ap (λ (o : Option Names). option_map (entry_named n) (item_in o n)) (none [])
seen_none v (n ∷ c ∷ p) none = seen_none (below v n) (c ∷ p) (λ q. none (n ∷ q))

module _ (a : List Place) (links : AreLinked a) (path : Path) (k : ℕ) where
  seen_along : (c : List ℕ) (p : Path) → Goes a path k (c ∷ p) → seen (view_at a 0) path ≡ seen (view_at a k) (c ∷ p)
  seen_along c p g =
      ap (seen (view_at a 0)) g.split ∙ seen_in (view_at a 0) g.front c p
      ∙ ap (λ (v : View). seen v (c ∷ p)) (there a links 0 g.front k g.walked)

  -- what stands at the last name
  pub seen_here : (n : List ℕ) → Goes a path k (n ∷ [])
      → option_map (entry_named n) (name_at (slice_get a k) n) ≡ seen (view_at a 0) path
  seen_here n g = ap (option_map (entry_named n)) (sym (item_there a k n)) ∙ sym (seen_along n [] g)

  -- the next directory is not loaded
  pub seen_nowhere : (n c : List ℕ) (p : Path) → Goes a path k (n ∷ c ∷ p) → inner_at (slice_get a k) n ≡ None
      → None ≡ seen (view_at a 0) path
  seen_nowhere n c p g none =
      sym (seen_along n (c ∷ p) g ∙ seen_none (below (view_at a k) n) (c ∷ p) (λ q.
      ap (λ (o : Option ℕ). names_there a (onward (λ inner. walk a inner q) o)) none))

-- a path that is not empty is seen by its names
pub seen_named : (v : View) (bs : List ℕ) → (bs ≡ [] → ⊥) → seen v (components bs) ≡ seen_at v bs
seen_named v [] some = absurd (some refl)
seen_named v (b ∷ bs) some = refl
