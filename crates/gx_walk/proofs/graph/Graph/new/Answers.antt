use Rattle.gx_walk.specs.declared.graph.Graph.{Graph}
use Rattle.gx_walk.proofs.GraphLemmas.{known_empty, no_entries}
use Rattle.gx_walk.proofs.graph.Graph.new.Goals as goal

pub returns-clause-empty : goal.returns-clause-empty
returns-clause-empty g c = no_entries (record { commits = c.new.result }) c.new.ensures.empty

pub returns-clause-known : goal.returns-clause-known
returns-clause-known g c = λ state.
    let made : Graph g.row.T.Denot = record { commits = c.new.result } in
    known_empty state made (no_entries made c.new.ensures.empty)
