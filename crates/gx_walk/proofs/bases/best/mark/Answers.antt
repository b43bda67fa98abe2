use Rattle.std.proofs.Common.{rules}
use Rattle.gx_hash.specs.ObjectIds.{has_id}
use Rattle.gx_walk.specs.Graph.{history_in}
use Rattle.gx_walk.specs.History.{followed}
use Rattle.gx_walk.specs.declared.commit.sorting.Parents.TheVariants.{All}
use Rattle.gx_walk.proofs.BestLemmas.{child_more}
use Rattle.gx_walk.proofs.bases.best.mark.Goals as goal

pub loop-id-preserved : goal.loop-id-preserved
loop-id-preserved c =
    child_more (followed (history_in c.args.graph.now) All (has_id c.args.shallow.now)) _ c.followed_in.result.now c.followed_in.ensures c.loop-id.marked c.mark_parents.new.marked c.in_ok-mark_parents.ensures
    c.args.ids.now c.loop-id.id-index c.loop-id-test.true (search rules) c.loop-id.invariant
