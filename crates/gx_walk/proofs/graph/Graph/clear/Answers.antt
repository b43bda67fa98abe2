use Rattle.gx_walk.specs.declared.graph.Graph.{Graph}
use Rattle.gx_walk.proofs.GraphLemmas.{known_empty, no_entries}
use Rattle.gx_walk.proofs.graph.Graph.clear.Goals as goal

pub returns-clause-empty : goal.returns-clause-empty
returns-clause-empty g c = no_entries (record { commits = c.clear.new.self }) c.clear.ensures.empty

pub returns-clause-known : goal.returns-clause-known
returns-clause-known g c = λ state.
    let left : Graph g.row.T.Denot = record { commits = c.clear.new.self } in
    known_empty state left (no_entries left c.clear.ensures.empty)
