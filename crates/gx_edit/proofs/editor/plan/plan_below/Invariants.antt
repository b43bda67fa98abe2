use Rattle.std.proofs.Common.{◌≤◌}
use Rattle.gx_edit.specs.EditorPlan.{IsPlanned}
use Rattle.gx_edit.specs.Nodes.{places_of}
use Rattle.gx_edit.proofs.editor.plan.plan_below.Given as goal

abbrev pub invariant-loop-at : goal.invariant-loop-at
invariant-loop-at l = record {
  low : 1 ≤ l.at;
  so_far : IsPlanned l.hash (places_of l.nodes) l.at l.planned;
}
