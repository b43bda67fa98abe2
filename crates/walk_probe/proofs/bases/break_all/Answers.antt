use Rattle.std.proofs.Common.{subst, sym}
use Rattle.gx_walk.specs.Graph.{IsGraphIn}
use Rattle.walk_probe.proofs.bases.break_all.Goals as goal

-- src/bases.rt:78:5
-- only what can be read changes
pub loop-id-preserved : goal.loop-id-preserved
loop-id-preserved c = subst (λ state. IsGraphIn state c.args.graph.now) (sym c.in_ok-break_object.ensures.ok) c.loop-id.invariant
