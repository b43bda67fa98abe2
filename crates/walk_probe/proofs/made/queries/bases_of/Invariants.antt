use Rattle.gx_walk.specs.Graph.{IsGraphIn}
use Rattle.walk_probe.proofs.made.queries.bases_of.Given as goal

-- the graph has what the store has
abbrev pub invariant-loop-pair : goal.invariant-loop-pair
invariant-loop-pair g l = IsGraphIn (g.S.Meanings.state l.store) l.graph
