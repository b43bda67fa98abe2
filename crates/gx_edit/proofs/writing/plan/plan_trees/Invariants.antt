use Rattle.std.proofs.Common.{◌≡◌, ◌+◌, ◌*◌, length}
use Rattle.gx_edit.specs.CanonicalTree.{Directory, IsCanonical}
use Rattle.gx_edit.specs.Planning.{leaves_of, rows_at, load, Reach, made}
use Rattle.gx_edit.proofs.OpenLemmas.{loads, HaveReach, IsPlanning}
use Rattle.gx_edit.proofs.PlanLemmas.{nothing_made}
use Rattle.gx_edit.proofs.writing.plan.plan_trees.Given as goal

-- each directory with these leaves has come to the rows that are left
abbrev pub invariant-loop-plan : goal.invariant-loop-plan
invariant-loop-plan l = record {
  reach : Reach l.at l.rest;
  reaches : HaveReach l.open.items;
  so_far : (d : Directory) → IsCanonical d → leaves_of d ≡ rows_at 0 l.rows → IsPlanning l.hash nothing_made (made l.plan) l.open.items (rows_at l.at l.rest) l.bytes.items d;
}

abbrev pub decreases-loop-plan : goal.decreases-loop-plan
decreases-loop-plan l = 2 * (load l.at l.rest + loads l.open.items) + length l.open.items
