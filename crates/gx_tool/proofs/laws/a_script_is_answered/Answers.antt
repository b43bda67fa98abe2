use Rattle.gx_tool.proofs.LawLemmas.{answered}
use Rattle.gx_tool.proofs.laws.a_script_is_answered.Goals as goal

pub returns : goal.returns
returns c = answered c.reads_once.ensures c.call_laws.ensures
