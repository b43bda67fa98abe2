use Rattle.std.proofs.Common.{◌≡◌}
use Rattle.std.specs.Vec.Iter.{into_iter_items}
use Rattle.gx_store.specs.Change.{refs_after, HaveDistinctNames}
use Rattle.gx_store.specs.Slots.{refs_of, AreReady}
use Rattle.gx_store.proofs.slots.make_changes.Given as goal

-- the changes that are left are apart and ready, and lead to what all lead to
abbrev pub invariant-loop-change : goal.invariant-loop-change
invariant-loop-change l =
    (goal.iterator-loop-change).can_next l.change-iterator ×
    (goal.iterator-loop-change).is_finite l.change-iterator ×
    HaveDistinctNames (into_iter_items l.change-iterator) ×
    AreReady l.map (into_iter_items l.change-iterator) ×
    (refs_after (into_iter_items l.change-iterator) (refs_of l.map) ≡ refs_after l.fn.changes.items (refs_of l.fn.map))
