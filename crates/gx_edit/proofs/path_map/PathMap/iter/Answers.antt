use Rattle.std.proofs.Common.{subst}
use Rattle.gx_edit.specs.PathList.{IsRising}
use Rattle.gx_edit.proofs.TextLemmas.{rising}
use Rattle.gx_edit.proofs.path_map.PathMap.iter.Goals as goal

pub returns-clause-rising : goal.returns-clause-rising
returns-clause-rising c = subst IsRising c.self.view_is (rising c.self.inside.leaves.entries c.iter.ensures.ordered)
