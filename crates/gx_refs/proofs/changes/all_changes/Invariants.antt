use Rattle.std.proofs.Common.{take}
use Rattle.std.specs.List.{AllByRecursion}
use Rattle.gx_hash.specs.declared.kind.HashKind.{HashKind}
use Rattle.gx_store.specs.Kinds.{AreChangesOfKind}
use Rattle.gx_refs.specs.Changing.{AreSigned, IsPlanOfKind}
use Rattle.gx_refs.specs.Edits.{AreChanges}
use Rattle.gx_refs.specs.Plan.{touches}
use Rattle.gx_refs.proofs.changes.all_changes.Given as goal

-- the changes of the first edits, signed and of one kind
abbrev pub invariant-loop-plan : goal.invariant-loop-plan
invariant-loop-plan g l =
    AreChanges (g.S.Meanings.state l.store).references l.terms (touches (take l.plan-index l.plans)) l.changes.items
    × AreSigned (g.S.Meanings.state l.store).references l.terms (touches (take l.plan-index l.plans))
    × ((hash : HashKind) → AllByRecursion (IsPlanOfKind hash) l.plans → AreChangesOfKind hash l.changes.items)
