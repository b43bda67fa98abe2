use Rattle.std.proofs.Common.{refl}
use Rattle.gix.proofs.EditLemmas.{one_more}
use Rattle.gix.proofs.plan.ids_of.Goals as goal

pub loop-id-preserved : goal.loop-id-preserved
loop-id-preserved c = one_more c.args.ids.now c.loop-id.id-index _ _ c.loop-id.set _ c.loop-id-test.true refl c.loop-id.invariant c.in_ok-insert.ensures.ok
