use Rattle.std.proofs.Common.{◌≡◌}
use Rattle.gx_edit.specs.PathList.{has_zero}
use Rattle.gx_edit.proofs.writing.rows.has_zero.Given as goal

-- no path before those that are left holds a zero byte
abbrev pub invariant-loop-entry : goal.invariant-loop-entry
invariant-loop-entry l = has_zero l.map ≡ has_zero l.entry-iterator
