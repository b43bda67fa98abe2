use Rattle.std.proofs.Common.{◌≡◌, ◌++◌, drop}
use Rattle.gx_store.proofs.log_line.Lines.from_slice.Given as goal

-- the copies so far, and the lines that are left
abbrev pub invariant-loop-line : goal.invariant-loop-line
invariant-loop-line l = l.copies.items ++ drop l.line-index l.lines ≡ l.lines
