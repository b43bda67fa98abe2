use Rattle.std.proofs.Common.{◌≡◌, ℕ, List, None, length, nat_lt, cond, ◌&&◌}
use Rattle.gx_edit.specs.PathTexts.{rows_of, leaf_at_text, is_below}
use Rattle.gx_edit.proofs.path_map.texts.remove_above.Given as goal

-- the paths above that are shorter are gone
abbrev pub invariant-loop-at : goal.invariant-loop-at
invariant-loop-at l = (q : List ℕ) → leaf_at_text (rows_of l.map) q ≡ cond (nat_lt (length q) l.at && is_below q l.path) None (leaf_at_text (rows_of l.fn.map) q)
