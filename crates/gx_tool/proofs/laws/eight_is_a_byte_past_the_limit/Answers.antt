use Rattle.gx_tool.proofs.LawLemmas.{eight}
use Rattle.gx_tool.proofs.laws.eight_is_a_byte_past_the_limit.Goals as goal

pub returns : goal.returns
returns c = eight
