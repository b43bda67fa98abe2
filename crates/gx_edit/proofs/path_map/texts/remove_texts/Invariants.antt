use Rattle.std.proofs.Common.{◌≡◌, ℕ, List, drop}
use Rattle.gx_edit.specs.PathTexts.{rows_of, leaf_at_text, without}
use Rattle.gx_edit.proofs.path_map.texts.remove_texts.Given as goal

-- without the texts that are left, the map is what it becomes
abbrev pub invariant-loop-text : goal.invariant-loop-text
invariant-loop-text l = (q : List ℕ) → without (drop l.text-index l.texts) (leaf_at_text (rows_of l.map)) q ≡ without l.texts (leaf_at_text (rows_of l.fn.map)) q
