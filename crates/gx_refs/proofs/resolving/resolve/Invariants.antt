use Rattle.std.proofs.Common.{◌-◌, ◌∷◌, ◌++◌, [], length}
use Rattle.gx_refs.proofs.ChainLemmas.{IsFollowed}
use Rattle.gx_refs.proofs.resolving.resolve.Given as goal

-- the names so far and the current one were followed
abbrev pub invariant-loop-current : goal.invariant-loop-current
invariant-loop-current g l = IsFollowed (g.S.Meanings.state l.store) l.name (l.names.items ++ l.current ∷ [])

abbrev pub decreases-loop-current : goal.decreases-loop-current
decreases-loop-current g l = 6 - length l.names.items
