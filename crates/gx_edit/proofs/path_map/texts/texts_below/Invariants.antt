use Rattle.std.proofs.Common.{◌≡◌, ℕ, List, ◌++◌, ◌&&◌, is_some}
use Rattle.std.specs.List.{list_any}
use Rattle.std.specs.Str.{bytes_eq}
use Rattle.gx_edit.specs.PathTexts.{rows_of, leaf_at_text, is_below}
use Rattle.gx_edit.proofs.TextLemmas.{texts_in}
use Rattle.gx_edit.proofs.path_map.texts.texts_below.Given as goal

-- the texts so far and those that are left are those below
abbrev pub invariant-loop-text : goal.invariant-loop-text
invariant-loop-text l =
    (goal.iterator-loop-text).can_next l.text-iterator ×
    (goal.iterator-loop-text).is_finite l.text-iterator ×
    ((q : List ℕ) → list_any (bytes_eq q) (l.texts.items ++ texts_in l.text-iterator) ≡ (is_below l.path q && is_some (leaf_at_text (rows_of l.map) q)))
