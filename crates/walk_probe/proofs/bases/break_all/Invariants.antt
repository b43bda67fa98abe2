use Rattle.gx_store.specs.Memory.{memory_state}
use Rattle.gx_walk.specs.Graph.{IsGraphIn}
use Rattle.walk_probe.proofs.bases.break_all.Given as goal

-- the graph has what the store has
abbrev pub invariant-loop-id : goal.invariant-loop-id
invariant-loop-id l = IsGraphIn (memory_state l.store) l.graph
