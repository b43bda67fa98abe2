use Rattle.std.proofs.Common.{take, ◌++◌, List, ℕ}
use Rattle.gx_refs.specs.Plan.{stored_names}
use Rattle.gx_refs.specs.Seen.{HasSeen}
use Rattle.gx_refs.proofs.shared.see_all.Given as goal

-- the names so far are seen too
abbrev pub invariant-loop-place : goal.invariant-loop-place
invariant-loop-place l = (names : List (List ℕ)) → HasSeen l.fn.seen names → HasSeen l.seen (names ++ stored_names (take l.place-index l.places))
