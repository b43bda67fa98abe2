-- What is written of one view are the same entries and the same trees, in whatever order, and one root.
use Rattle.std.proofs.Common.{◌≡◌, ◌≢◌, ◌⊎◌, ◌∙◌, inl, inr, sym, ap, refl, subst, List, [], map, IsSome, Contains, ℕ}
use Rattle.std.proofs.lemmas.List.{append-nil}
use Rattle.gx_hash.specs.declared.kind.HashKind.{HashKind}
use Rattle.gx_object.specs.declared.kind.Kind.{Kind}
use Rattle.gx_object.specs.declared.tree.Entry.{Entry}
use Rattle.gx_edit.specs.Path.{Path}
use Rattle.gx_edit.specs.LawsView.{WrittenOnce}
use Rattle.gx_edit.specs.Output.{Output}
use Rattle.gx_edit.specs.View as directories
use Rattle.gx_edit.specs.Written.{IsWritten, IsWrittenAt, IsLeftOut, IsOutputOfView, inside, tree_with, id_with}
use Rattle.gx_edit.specs.Written.IsWritten.{written}
use Rattle.gix.proofs.Lists.{beside, beside_second, in_joined, joined_from, in_mapped, mapped_from}

root_there : (hash : HashKind) (v : directories.View) (rows : List Entry) → IsWritten hash v rows → IsSome (v [])
root_there hash v rows (written _ names inner _ root deeper list) = subst IsSome (sym root) refl

module _ (once : WrittenOnce) (hash : HashKind) (v : directories.View) (a b : Output) (x : IsOutputOfView hash v a) (y : IsOutputOfView hash v b) where
  pub same_root : a.root ≡ b.root
  same_root = x.root.2 ∙ ap (id_with hash) (once hash v x.root.0 y.root.0 x.root.1 y.root.1) ∙ sym y.root.2

  there : (p : Path) (rows : List Entry) → IsWrittenAt hash v p rows → IsSome (v p)
  there p rows w = subst (λ q. IsSome (v q)) (append-nil p) (root_there hash (inside v p) rows w.written)

  -- what is written at a path for the one is for the other
  listed_in : (rows : List Entry) → Contains x.listed rows → Contains y.listed rows
  listed_in rows among =
      let at = beside_second (IsWrittenAt hash v) x.paths x.listed rows x.each among in
      go at.0 at.2 (y.all at.0 (there at.0 rows at.2))
    where
      same : (p : Path) → IsWrittenAt hash v p rows → ((others : List Entry) × Contains y.listed others × IsWrittenAt hash v p others) → Contains y.listed rows
      same p w other = subst (Contains y.listed) (once hash (inside v p) other.0 rows other.2.written w.written) other.1

      left : (p : Path) → IsWrittenAt hash v p rows → IsLeftOut hash v p → (p ≡ []) ⊎ (rows ≢ []) → ⊥
      left p w out (inl root) = out.below_root root
      left p w out (inr some) = some (once hash (inside v p) rows [] w.written out.nothing)

      go : (p : Path) → IsWrittenAt hash v p rows → Contains y.paths p ⊎ IsLeftOut hash v p → Contains y.listed rows
      go p w (inl listed) = same p w (beside (IsWrittenAt hash v) y.paths y.listed p y.each listed)
      go p w (inr out) = absurd (left p w out w.tree)

  pub same_entry : (entry : Entry) → Contains a.entries entry → Contains b.entries entry
  same_entry entry h =
      let from = joined_from x.listed entry (subst (λ l. Contains l entry) x.entries h) in
      subst (λ l. Contains l entry) (sym y.entries) (in_joined y.listed from.0 entry (listed_in from.0 from.1) from.2)

  pub same_tree : (tree : Kind × List ℕ) → Contains a.trees tree → Contains b.trees tree
  same_tree tree h =
      let from = mapped_from tree_with x.listed tree (subst (λ l. Contains l tree) x.trees h) in
      subst (λ l. Contains l tree) (sym y.trees) (subst (Contains (map tree_with y.listed)) from.2 (in_mapped tree_with y.listed from.0 (listed_in from.0 from.1)))
