use Rattle.gx_refs.proofs.RefusalLemmas.{one_meets_none}
use Rattle.gx_refs.proofs.laws.one_edit_meets_none.Goals as goal

pub returns : goal.returns
returns c = one_meets_none
