use Rattle.gx_walk.specs.Simple.{items_left}
use Rattle.gx_walk.proofs.CandidateLemmas.{IsSearching}
use Rattle.gx_walk.proofs.describe.search.Search.candidates.Given as goal

abbrev pub invariant-loop-walk : goal.invariant-loop-walk
invariant-loop-walk g l = IsSearching g.S.Meanings.state l.store l.self l.names l.most l.walk l.candidates.items

abbrev pub decreases-loop-walk : goal.decreases-loop-walk
decreases-loop-walk g l = items_left l.walk
