use Rattle.std.proofs.Common.{suc, take}
use Rattle.gx_walk.specs.Search.{IfReached, IsNearestOf}
use Rattle.gx_walk.proofs.describe.search.Search.nearest.Given as goal

abbrev pub invariant-loop-other : goal.invariant-loop-other
invariant-loop-other g l = IfReached (g.S.Meanings.state l.store) l.self l.candidates (λ history.
    IsNearestOf history l.self (take (suc l.other-index) l.candidates) l.nearest)
