use Rattle.std.proofs.Common.{◌≡◌, ◌∙◌, sym, ap, subst, rules, to_z, of_z, w64, Some, IsSome}
use Rattle.std.specs.Option.{is_some}
use Rattle.gx_walk.specs.Graph.{history_in, IsGraphOf}
use Rattle.gx_walk.specs.Read.{node_of}
use Rattle.gx_walk.proofs.GraphLemmas.{graph_put, graph_same, extends_put, put_here, not_in}
use Rattle.gx_walk.proofs.TellLemmas.{told_then, told_both}
use Rattle.gx_walk.proofs.commit.reach.load.Goals as goal

pub returns-in_err-insert-clause-graph : goal.returns-in_err-insert-clause-graph
returns-in_err-insert-clause-graph g c =
    told_then (g.S.Meanings.state c.args.store.now) (λ h. IsGraphOf h c.args.graph.now) (λ h. IsGraphOf h c.insert.new.self)
    (λ h it. graph_same h c.args.graph.now c.insert.new.self c.in_err-insert.ensures.leaves it) c.requires

pub returns-clause-ok : goal.returns-clause-ok
returns-clause-ok g c = ap is_some (put_here c.args.graph.now c.insert.new.self c.args.id _ c.in_ok-insert.ensures.ok)

pub returns-clause-graph : goal.returns-clause-graph
returns-clause-graph g c =
    let same : c.in_ok-commit.commit.time ≡ to_z w64 (of_z w64 c.in_ok-commit.commit.time) = search rules in
    told_both (g.S.Meanings.state c.args.store.now) (λ h. IsGraphOf h c.args.graph.now) (λ h. h c.args.id ≡ Some (node_of c.in_ok-commit.commit)) (λ h. IsGraphOf h c.insert.new.self)
    (λ h it is. graph_put c.args.graph.now c.insert.new.self c.args.id _ c.in_ok-insert.ensures.ok h it (is ∙ ap (λ t. Some (record { parents = c.in_ok-commit.commit.parents; time = t })) same)) c.requires c.in_ok-commit.ensures.ok

pub returns-clause-keeps : goal.returns-clause-keeps
returns-clause-keeps g c =
    extends_put c.args.graph.now c.insert.new.self c.args.id _ c.in_ok-insert.ensures.ok (not_in c.get.result _ c.get.ensures (search rules))
