use Rattle.std.proofs.Common.{◌≡◌, ◌+◌, drop}
use Rattle.gx_edit.specs.Planning.{rows_at, run}
use Rattle.gx_edit.proofs.writing.groups.group_len.Given as goal

-- the entries so far go into the directory
abbrev pub invariant-loop-row : goal.invariant-loop-row
invariant-loop-row l = record {
  here : l.count ≡ l.row-index;
  more : run l.name (rows_at l.at l.rows) ≡ l.row-index + run l.name (rows_at l.at (drop l.row-index l.rows));
}
