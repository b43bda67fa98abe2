use Rattle.std.proofs.Common.{◌≡◌, ◌^◌, []}
use Rattle.gx_walk.specs.OpenTree.{above_of}
use Rattle.gx_walk.proofs.GoingLemmas.{IsGoing}
use Rattle.gx_walk.proofs.WeightLemmas.{weigh}
use Rattle.gx_walk.proofs.tree.depth.depthfirst.Given as goal

abbrev pub invariant-loop-entry : goal.invariant-loop-entry
invariant-loop-entry g l = (l.entered ≡ above_of [] l.levels.items l.tree) × IsGoing (g.S.Meanings.state l.store) l.fn.root l.fn.bytes (g.V.Visit.visits l.fn.visit) (g.V.Visit.cancels l.fn.visit) l.levels.items l.tree l.path.items (g.V.Visit.visits l.visit) (g.V.Visit.cancels l.visit)

abbrev pub decreases-loop-entry : goal.decreases-loop-entry
decreases-loop-entry g l = weigh (2 ^ 64) l.levels.items l.tree
