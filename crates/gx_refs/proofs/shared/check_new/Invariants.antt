use Rattle.std.proofs.Common.{take, List, ℕ}
use Rattle.gx_refs.specs.Plan.{stored_names}
use Rattle.gx_refs.specs.Seen.{HasSeen, AreNew}
use Rattle.gx_refs.proofs.shared.check_new.Given as goal

-- the names so far were not seen
abbrev pub invariant-loop-place : goal.invariant-loop-place
invariant-loop-place l = (names : List (List ℕ)) → HasSeen l.seen names → AreNew names (stored_names (take l.place-index l.places))
