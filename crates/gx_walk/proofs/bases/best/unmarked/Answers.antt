use Rattle.std.proofs.Common.{◌∙◌, sym, rules, to_z, of_z, w64}
use Rattle.gx_hash.specs.ObjectIds.{has_id}
use Rattle.gx_walk.specs.Best.{rank_at}
use Rattle.gx_walk.specs.Graph.{history_in}
use Rattle.gx_walk.proofs.BestLemmas.{unmarked_next, skip_marked}
use Rattle.gx_walk.proofs.bases.best.unmarked.Goals as goal

pub loop-id-preserved : goal.loop-id-preserved
loop-id-preserved c = unmarked_next (rank_at (history_in c.args.graph.now)) (has_id c.args.marked.now) c.args.ids.now c.loop-id.id-index _ c.loop-id-test.true (search rules) c.loop-id.keys c.loop-id.invariant c.insert.new.self (to_z w64 (of_z w64 c.rank_in.result)) (search rules) (search rules) c.in_ok-insert.ensures.updates

pub loop-id-preserved-then-contains : goal.loop-id-preserved-then-contains
loop-id-preserved-then-contains c = skip_marked (rank_at (history_in c.args.graph.now)) (has_id c.args.marked.now) _ (sym c.contains.ensures ∙ c.if-contains.true) c.args.ids.now c.loop-id.id-index c.loop-id-test.true (search rules) c.loop-id.keys c.loop-id.invariant
