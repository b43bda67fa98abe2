use Rattle.std.proofs.Common.{take}
use Rattle.gx_hash.specs.declared.kind.HashKind.{HashKind}
use Rattle.gx_store.specs.Kinds.{AreChangesOfKind}
use Rattle.gx_refs.specs.Changing.{AreSigned, IsPlanOfKind}
use Rattle.gx_refs.specs.Edits.{AreChanges}
use Rattle.gx_refs.specs.Plan.{touches_at}
use Rattle.gx_refs.proofs.changes.changes_at.Given as goal

-- the changes at the first places, signed and of one kind
abbrev pub invariant-loop-place : goal.invariant-loop-place
invariant-loop-place g l =
    AreChanges (g.S.Meanings.state l.store).references l.terms (touches_at l.plan (take l.place-index l.places)) l.changes.items
    × AreSigned (g.S.Meanings.state l.store).references l.terms (touches_at l.plan (take l.place-index l.places))
    × ((hash : HashKind) → IsPlanOfKind hash l.plan → AreChangesOfKind hash l.changes.items)
