use Rattle.gx_walk.proofs.NearestLemmas.{IsMeasuring}
use Rattle.gx_walk.proofs.describe.search.Search.measure.Given as goal

abbrev pub invariant-loop-item : goal.invariant-loop-item
invariant-loop-item g l = IsMeasuring g.S.Meanings.state l.store l.self l.candidate l.walk l.beyond
