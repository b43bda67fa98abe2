-- One leaf more in a tree map from written paths to leaves.
use Rattle.std.proofs.Common.{◌≡◌, ℕ, cond, List, Some, sym, ap, ap₂, ◌∙◌}
use Rattle.std.specs.Str.{bytes_eq}
use Rattle.gx_edit.specs.Path.{Path, components, path_eq}
use Rattle.gx_edit.specs.PathList.{PathList, map_of}
use Rattle.gx_edit.specs.PathTexts.{leaf_at_text}
use Rattle.gx_edit.specs.declared.leaf.Leaf.{Leaf}
use Rattle.gx_edit.proofs.TextLemmas.{bytes_eq-turned, same_text, map_text, map_none, by_text}

pub leaf_put : (old new : PathList) (text : List ℕ) (x : Leaf) → ((q : List ℕ) → leaf_at_text new q ≡ cond (bytes_eq text q) (Some x) (leaf_at_text old q)) → (q : Path) → map_of new q ≡ cond (path_eq (components text) q) (Some x) (map_of old q)
leaf_put old new text x puts = by_text (λ q. map_of new q ≡ cond (path_eq (components text) q) (Some x) (map_of old q))
    (λ k. map_text new k ∙ puts k ∙ ap₂ (λ t o. cond t (Some x) o) (bytes_eq-turned text k ∙ sym (same_text text k)) (sym (map_text old k)))
    (λ q none. map_none new q none ∙ sym (ap (λ t. cond t (Some x) (map_of old q)) (none text) ∙ map_none old q none))
