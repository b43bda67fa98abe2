use Rattle.gx_tool.proofs.LawLemmas.{not_malformed}
use Rattle.gx_tool.proofs.laws.a_script_is_not_malformed.Goals as goal

pub returns : goal.returns
returns c = not_malformed c.reads_once.ensures
