use Rattle.gx_tool.proofs.LawLemmas.{valid_requests}
use Rattle.gx_tool.proofs.laws.valid_requests_are_accepted.Goals as goal

pub returns : goal.returns
returns c = valid_requests c.reads_once.ensures c.call_laws.ensures
