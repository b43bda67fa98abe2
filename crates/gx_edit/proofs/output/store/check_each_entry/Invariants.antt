use Rattle.std.proofs.Common.{drop}
use Rattle.std.specs.List.{AllByRecursion}
use Rattle.gx_edit.specs.Entries.{IsComplete}
use Rattle.gx_edit.proofs.output.store.check_each_entry.Given as goal

-- the entries before name what is stored
abbrev pub invariant-loop-entry : goal.invariant-loop-entry
invariant-loop-entry g l = AllByRecursion (IsComplete (g.S.Meanings.state l.store)) (drop l.entry-index l.entries) → AllByRecursion (IsComplete (g.S.Meanings.state l.store)) l.entries
