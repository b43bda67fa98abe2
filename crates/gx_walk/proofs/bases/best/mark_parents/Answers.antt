use Rattle.std.proofs.Common.{◌∙◌, sym, rules}
use Rattle.gx_hash.specs.ObjectIds.{has_id}
use Rattle.gx_walk.proofs.BestLemmas.{mark_next, skip_itself}
use Rattle.gx_walk.proofs.bases.best.mark_parents.Goals as goal

pub loop-parent-preserved : goal.loop-parent-preserved
loop-parent-preserved c = mark_next c.args.parents.now c.loop-parent.parent-index _ c.loop-parent-test.true (search rules) c.args.id (has_id c.args.marked.now) c.loop-parent.marked c.insert.new.self (search rules) c.loop-parent.invariant c.in_ok-insert.ensures.ok

pub loop-parent-preserved-then-eq : goal.loop-parent-preserved-then-eq
loop-parent-preserved-then-eq c = skip_itself _ c.args.id (sym c.eq.ensures ∙ c.if-eq.true) c.args.parents.now c.loop-parent.parent-index c.loop-parent-test.true (search rules) (has_id c.args.marked.now) c.loop-parent.marked c.loop-parent.invariant
