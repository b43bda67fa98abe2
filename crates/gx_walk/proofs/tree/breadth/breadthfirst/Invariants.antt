use Rattle.std.proofs.Common.{◌^◌}
use Rattle.gx_walk.proofs.WideLemmas.{IsWide, weigh_wide}
use Rattle.gx_walk.proofs.tree.breadth.breadthfirst.Given as goal

abbrev pub invariant-loop-entry : goal.invariant-loop-entry
invariant-loop-entry g l = IsWide (g.S.Meanings.state l.store) l.fn.root l.fn.bytes (g.V.Visit.visits l.fn.visit) (g.V.Visit.cancels l.fn.visit) l.tree l.queue.items (g.V.Visit.visits l.visit) (g.V.Visit.cancels l.visit)

abbrev pub decreases-loop-entry : goal.decreases-loop-entry
decreases-loop-entry g l = weigh_wide (2 ^ 64) l.tree l.queue.items
