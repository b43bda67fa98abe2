use Rattle.gx_tool.proofs.LawLemmas.{whole_script}
use Rattle.gx_tool.proofs.laws.zero_and_one_are_a_whole_script.Goals as goal

pub returns : goal.returns
returns c = whole_script
