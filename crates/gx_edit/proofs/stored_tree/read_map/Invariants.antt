use Rattle.std.proofs.Common.{◌^◌}
use Rattle.gx_edit.specs.PathList.{map_of}
use Rattle.gx_edit.specs.PathTexts.{rows_of}
use Rattle.gx_edit.proofs.ReadingLemmas.{IsAt}
use Rattle.gx_edit.proofs.WeightLemmas.{weigh}
use Rattle.gx_edit.proofs.stored_tree.read_map.Given as goal

abbrev pub invariant-loop-entry : goal.invariant-loop-entry
invariant-loop-entry g l = IsAt (g.S.Meanings.state l.store).hash (g.S.Meanings.state l.store).content l.levels.items l.tree l.path.items l.fn.root (map_of (rows_of l.leaves))

abbrev pub decreases-loop-entry : goal.decreases-loop-entry
decreases-loop-entry g l = weigh (2 ^ 64) l.levels.items l.tree
