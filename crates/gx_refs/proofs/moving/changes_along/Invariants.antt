use Rattle.std.proofs.Common.{take}
use Rattle.gx_refs.proofs.MovingLemmas.{AreKept}
use Rattle.gx_refs.proofs.moving.changes_along.Given as goal

-- the changes of the first names
abbrev pub invariant-loop-name : goal.invariant-loop-name
invariant-loop-name g l = AreKept l.mode l.line (g.S.Meanings.state l.store).references (take l.name-index l.way) l.changes.items
