use Rattle.gix.proofs.EditingLemmas.{editing_lawful}
use Rattle.gix.proofs.laws.edit_references_is_lawful.Goals as goal

pub returns : goal.returns
returns c = editing_lawful
