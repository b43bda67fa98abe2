use Rattle.std.proofs.Common.{ap, length}
use Rattle.gx_walk.proofs.GraphLemmas.{no_entries, no_length, none_left}
use Rattle.gx_walk.proofs.graph.Graph.is_empty.Goals as goal

pub returns : goal.returns
returns g c = (λ h. no_entries c.args.self.now (no_length c.args.self.now.commits.entries (c.is_empty.ensures.0 h)), λ empty. c.is_empty.ensures.1 (ap length (none_left c.args.self.now empty)))
