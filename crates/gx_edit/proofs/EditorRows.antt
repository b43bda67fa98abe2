-- The rows of a directory that stands at a place.
use Rattle.std.proofs.Common.{◌≡◌, ◌∙◌, ◌<◌, sym, ap, ap₂, refl, subst, List, [], ◌∷◌, ℕ, suc, Option, Some, IsSome, map, option_map, filter_map, length, arith}
use Rattle.std.specs.Prelude.{slice_get}
use Rattle.std.specs.Global.{Vec}
use Rattle.std.specs.declared.cmp.Ordering.TheVariants.{Less}
use Rattle.std.specs.List.{AllByRecursion, cons_option}
use Rattle.std.specs.List.Sorted.{IsStrictlySortedBy, IsPermutation}
use Rattle.gx_hash.specs.declared.kind.HashKind.{HashKind}
use Rattle.gx_rules.specs.Name.{name_cmp}
use Rattle.gx_object.specs.declared.tree.Entry.{Entry}
use Rattle.gx_edit.specs.EditorPlan.{IsReached, IsPlanned, AreRows, id_for, id_if, row_for}
use Rattle.gx_edit.specs.Nodes.{Place, AreLinked, keyed, map_in, place_of, inner_at, view_at}
use Rattle.gx_edit.specs.Written.{IsWritten, entry_with, entry_for}
use Rattle.gx_edit.specs.declared.editor.item.Item.{Item}
use Rattle.gx_edit.specs.declared.editor.nodes.Node.{Node}
use Rattle.gx_edit.specs.declared.editor.plan.Planned.{Planned}
use Rattle.gx_edit.proofs.EditorPlanned.{written_here, row_is, listed_in}
use Rattle.gx_edit.proofs.NodeLemmas.{walk_reaches, reaches_within, place_at}
use Rattle.gx_edit.proofs.WrittenEntries.{loaded}

module _ {X : Type 0} where
  above_named : (k : Vec ℕ) (es : List (Vec ℕ × X)) → AllByRecursion (λ (y : Vec ℕ). name_cmp k.items y.items ≡ Less) (map (λ (e : Vec ℕ × X). e.0) es) → AllByRecursion (λ (n : List ℕ). name_cmp k.items n ≡ Less) (map (λ (e : List ℕ × X). e.0) (keyed es))
  above_named k [] above = tt
  above_named k (e ∷ es) above = (above.0, above_named k es above.1)

  -- names rise as the keys do
  pub names_rise : (es : List (Vec ℕ × X)) → IsStrictlySortedBy (λ (a b : Vec ℕ). name_cmp a.items b.items) (map (λ (e : Vec ℕ × X). e.0) es) → IsStrictlySortedBy name_cmp (map (λ (e : List ℕ × X). e.0) (keyed es))
  unfolding IsStrictlySortedBy
  names_rise [] rise = tt
  names_rise (e ∷ es) rise = (above_named e.0 es rise.0, names_rise es rise.1)

listed_alike : {A B : Type 0} (f g : A → Option B) → ((x : A) → f x ≡ g x) → (xs : List A) → filter_map f xs ≡ filter_map g xs
listed_alike f g same [] = refl
listed_alike f g same (x ∷ xs) = ap₂ (λ o ys. cons_option o ys) (same x) (listed_alike f g same xs)

some_of : {X : Type 0} (o : Option X) (x : X) → o ≡ Some x → IsSome o
some_of o x is = subst IsSome (sym is) refl

-- a place that the root leads to is one of them
pub reached_within : (a : List Place) (links : AreLinked a) (i : ℕ) → IsReached a i → i < length a
reached_within a links i r = reaches_within a links 0 i (walk_reaches a links 0 r.0 i r.1) links.some

module _ (hash : HashKind) (a : List Place) (links : AreLinked a) (k : ℕ) (so_far : Planned) (p : IsPlanned hash a (suc k) so_far) (reached : IsReached a k) (node : Node) (seen : slice_get a k ≡ Some (place_of node)) where
  known : (j : ℕ) → k < j → IsReached a j → (slice_get so_far.done.items j ≡ Some (id_if hash (p.listed j))) × IsSome (slice_get a j)
  known j less r = (p.done j (omega (arith, less)) r, (let at = place_at a j (reached_within a links j r) in some_of (slice_get a j) at.0 at.1))

  abbrev rows_in : List ℕ → List Entry
  rows_in n = listed_in p.listed (inner_at (slice_get a k) n)

  one_row : (x : List ℕ × Item) → row_for (map_in node.inner) so_far.done.items x ≡ entry_for hash x.0 (Some x.1) (loaded (view_at a k (x.0 ∷ [])) (rows_in x.0))
  one_row x =
      ap (λ (o : Option Place). option_map (entry_with x.0 x.1) (id_for x.1 (inner_at o x.0) so_far.done.items)) (sym seen)
      ∙ sym (row_is hash a links k p.listed p.order p.plan reached so_far.done.items x.0 x.1 known)

  -- The rows of the directory at this place are what is written of it.
  pub rows_written : (rows : List Entry) → AreRows node so_far.done.items rows → IsWritten hash (view_at a k) rows
  rows_written rows r =
      written_here hash a links k p.listed p.order p.plan reached (keyed node.names.entries) rows
      (ap (λ (o : Option Place). option_map (λ (x : Place). x.names) o) seen) r.ordered
      (subst (λ (es : List Entry). IsPermutation es rows) (listed_alike (row_for (map_in node.inner) so_far.done.items) (λ x. entry_for hash x.0 (Some x.1) (loaded (view_at a k (x.0 ∷ [])) (rows_in x.0))) one_row (keyed node.names.entries)) r.moved) r.sorted
