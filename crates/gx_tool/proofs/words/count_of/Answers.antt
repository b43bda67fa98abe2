use Rattle.std.proofs.Common.{arith, sym}
use Rattle.gx_tool.proofs.WordLemmas.{no_number, other_spelling, too_large}
use Rattle.gx_tool.proofs.words.count_of.Goals as goal

pub returns-in_default : goal.returns-in_default
returns-in_default c = no_number c.args.word.now c.parse.result c.parse.ensures.value.0 c.in_default.not-Ok

pub returns-then-count-gt-MOST_COMMITS : goal.returns-then-count-gt-MOST_COMMITS
returns-then-count-gt-MOST_COMMITS c = too_large c.args.word.now c.parse.result c.in-Ok.count c.parse.ensures.value.0 c.in-Ok.is (omega (arith, c.if-count-gt-MOST_COMMITS.true))

pub returns-then-not-is_spelled : goal.returns-then-not-is_spelled
returns-then-not-is_spelled c = other_spelling c.args.word.now c.parse.result c.in-Ok.count c.parse.ensures.value.0 c.in-Ok.is (λ same. absurd (grind (arith, sym same, c.if-not-is_spelled.true, c.is_spelled.ensures)))
