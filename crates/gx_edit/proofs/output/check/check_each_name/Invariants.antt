use Rattle.std.proofs.Common.{Some, drop}
use Rattle.std.specs.List.{AllByRecursion}
use Rattle.gx_edit.specs.Entries.{IsSafe}
use Rattle.gx_edit.proofs.output.check.check_each_name.Given as goal

-- the entries before pass
abbrev pub invariant-loop-entry : goal.invariant-loop-entry
invariant-loop-entry l = AllByRecursion (IsSafe (Some l.protect)) (drop l.entry-index l.entries) → AllByRecursion (IsSafe (Some l.protect)) l.entries
