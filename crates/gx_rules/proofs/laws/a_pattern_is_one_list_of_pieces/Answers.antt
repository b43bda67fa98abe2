use Rattle.gx_rules.specs.Pattern.{letters}
use Rattle.gx_rules.proofs.PatternLaws.{one_list}
use Rattle.gx_rules.proofs.laws.a_pattern_is_one_list_of_pieces.Goals as goal

pub returns : goal.returns
returns c = λ a b. one_list a b (letters c.args.text.now)
