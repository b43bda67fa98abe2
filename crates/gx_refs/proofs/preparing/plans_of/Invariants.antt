use Rattle.std.proofs.Common.{◌≡◌, ◌++◌}
use Rattle.std.specs.List.{AllByRecursion}
use Rattle.gx_refs.specs.Plan.{ArePlans}
use Rattle.gx_refs.specs.Planned.{FindsKind}
use Rattle.gx_refs.proofs.preparing.plans_of.Given as goal

-- the plans of the edits so far
abbrev pub invariant-loop-edit : goal.invariant-loop-edit
invariant-loop-edit g l =
    (l.fn.edits ≡ l.yielded ++ l.edit-iterator.rest.items)
    × ArePlans l.space (g.S.Meanings.state l.store).references l.yielded l.plans.items
    × AllByRecursion (FindsKind (g.S.Meanings.state l.store).hash) l.plans.items
