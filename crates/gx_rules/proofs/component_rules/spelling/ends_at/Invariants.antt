use Rattle.std.proofs.Common.{◌≡◌}
use Rattle.gx_rules.specs.Component.{ends_at}
use Rattle.gx_rules.proofs.component_rules.spelling.ends_at.Given as goal

-- the bytes passed are of `fill`
abbrev pub invariant-loop-byte : goal.invariant-loop-byte
invariant-loop-byte l = (goal.iterator-loop-byte).can_next l.byte-iterator × (goal.iterator-loop-byte).is_finite l.byte-iterator
    × (ends_at l.fill l.cut l.byte-iterator ≡ ends_at l.fill l.cut l.fn.name)
