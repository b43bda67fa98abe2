use Rattle.std.proofs.Common.{◌≡◌, drop}
use Rattle.gx_rules.specs.Component.{spells}
use Rattle.gx_rules.proofs.component_rules.spelling.spells.Given as goal

-- what is left of the name spells what is left of the word just where the whole does
abbrev pub invariant-loop-letter : goal.invariant-loop-letter
invariant-loop-letter l = (goal.iterator-loop-letter).can_next l.rest × (goal.iterator-loop-letter).is_finite l.rest
    × (spells (drop l.letter-index l.word) l.fill l.cut l.rest ≡ spells l.word l.fill l.cut l.fn.name)
