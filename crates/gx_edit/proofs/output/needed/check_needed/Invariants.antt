use Rattle.std.proofs.Common.{drop}
use Rattle.std.specs.List.{AllByRecursion}
use Rattle.gx_edit.specs.Checking.{IsCompleteOutside}
use Rattle.gx_edit.proofs.output.needed.check_needed.Given as goal

abbrev pub invariant-loop-entry : goal.invariant-loop-entry
invariant-loop-entry g l =
    AllByRecursion (IsCompleteOutside (g.S.Meanings.state l.store) l.given l.trees) (drop l.entry-index l.entries) → AllByRecursion (IsCompleteOutside (g.S.Meanings.state l.store) l.given l.trees) l.entries
