use Rattle.std.proofs.Common.{◌≡◌, map}
use Rattle.gx_edit.specs.Planning.{texts_of, shown}
use Rattle.gx_edit.proofs.writing.rows.rows_of.Given as goal

-- the paths so far are copied
abbrev pub invariant-loop-entry : goal.invariant-loop-entry
invariant-loop-entry l = texts_of l.rows.items ≡ (map shown l.yielded)
