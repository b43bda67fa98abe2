use Rattle.gx_tool.proofs.LawLemmas.{other_bytes}
use Rattle.gx_tool.proofs.laws.other_bytes_are_malformed.Goals as goal

pub returns : goal.returns
returns c = other_bytes c.call_laws.ensures
