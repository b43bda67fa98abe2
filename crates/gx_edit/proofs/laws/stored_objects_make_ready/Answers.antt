use Rattle.gx_edit.proofs.ReadyLemmas.{made_ready}
use Rattle.gx_edit.proofs.laws.stored_objects_make_ready.Goals as goal

pub returns : goal.returns
returns c = made_ready c.writing_adds.ensures
