use Rattle.std.proofs.Common.{rules}
use Rattle.gx_walk.proofs.IdLemmas.{added_next}
use Rattle.gx_walk.proofs.commit.course.set_of.Goals as goal

pub loop-id-preserved : goal.loop-id-preserved
loop-id-preserved c = added_next c.args.ids.now c.loop-id.id-index _ c.loop-id.set _ c.loop-id-test.true (search rules) c.loop-id.invariant c.in_ok-insert.ensures.ok
