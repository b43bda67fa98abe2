use Rattle.std.proofs.Common.{length}
use Rattle.gx_refs.proofs.RoomLemmas.{IsCut}
use Rattle.gx_refs.proofs.conflicts.made_above.Given as goal

-- the name was cut so far, and no prefix that was left is made
abbrev pub invariant-loop-byte : goal.invariant-loop-byte
invariant-loop-byte l = IsCut l.made l.name l.above.items

abbrev pub decreases-loop-byte : goal.decreases-loop-byte
decreases-loop-byte l = length l.above.items
