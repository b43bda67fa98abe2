use Rattle.std.proofs.Common.{◌≡◌, ◌++◌}
use Rattle.gx_store.proofs.Prefixes.{IsFrom, wanted}
use Rattle.gx_store.proofs.slots.names_of.Given as goal

-- the names so far, and those that are left, from the prefix on
abbrev pub invariant-loop-name : goal.invariant-loop-name
invariant-loop-name l =
    (goal.iterator-loop-name).can_next l.name-iterator ×
    (goal.iterator-loop-name).is_finite l.name-iterator ×
    IsFrom l.prefix l.name-iterator ×
    (l.names.items ++ wanted l.prefix l.name-iterator ≡ wanted l.prefix l.map.entries)
