use Rattle.gx_walk.proofs.IdLemmas.{put_is}
use Rattle.gx_walk.proofs.graph.Graph.insert.Goals as goal

pub returns-clause-ok : goal.returns-clause-ok
returns-clause-ok g c = put_is c.args.self.now.commits.entries c.insert.new.self.entries c.args.id c.args.commit c.in_ok-insert.ensures.updates.0
