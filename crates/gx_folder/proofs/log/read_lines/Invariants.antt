use Rattle.std.proofs.Common.{◌≡◌}
use Rattle.gx_store.specs.Kinds.{AreLinesOfKind}
use Rattle.gx_folder.proofs.log.read_lines.Given as goal

-- each line so far is of the kind
abbrev pub invariant-loop : goal.invariant-loop
invariant-loop l = AreLinesOfKind l.hash l.lines.items × (l.hash ≡ l.fn.hash)
