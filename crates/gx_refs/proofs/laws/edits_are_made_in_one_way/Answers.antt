use Rattle.gx_refs.proofs.RefusalLemmas.{one_made}
use Rattle.gx_refs.proofs.laws.edits_are_made_in_one_way.Goals as goal

pub returns : goal.returns
returns c = one_made
