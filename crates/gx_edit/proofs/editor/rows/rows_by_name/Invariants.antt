use Rattle.std.proofs.Common.{◌≡◌, ◌++◌, filter_map}
use Rattle.gx_edit.specs.Nodes.{keyed, map_in}
use Rattle.gx_edit.specs.EditorPlan.{row_for, rows_by_name}
use Rattle.gx_edit.proofs.editor.rows.rows_by_name.Given as goal

-- the rows so far, and those of the names that are left
abbrev pub invariant-loop-name : goal.invariant-loop-name
invariant-loop-name l = l.rows.items ++ filter_map (row_for (map_in l.node.inner) l.done) (keyed l.name-iterator) ≡ rows_by_name l.node l.done
