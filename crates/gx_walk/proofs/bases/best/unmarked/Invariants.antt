use Rattle.std.proofs.Common.{take}
use Rattle.gx_hash.specs.ObjectIds.{has_id}
use Rattle.gx_walk.specs.Best.{AreUnmarked, rank_at}
use Rattle.gx_walk.specs.Graph.{history_in}
use Rattle.gx_walk.proofs.bases.best.unmarked.Given as goal

abbrev pub invariant-loop-id : goal.invariant-loop-id
invariant-loop-id l = AreUnmarked (rank_at (history_in l.graph)) (has_id l.marked) (take l.id-index l.ids) l.keys
