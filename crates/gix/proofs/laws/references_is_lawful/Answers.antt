use Rattle.gix.specs.References.{references_query}
use Rattle.gix.proofs.AskingLemmas.{asking_lawful}
use Rattle.gix.proofs.laws.references_is_lawful.Goals as goal

pub returns : goal.returns
returns c = λ prefix. asking_lawful (references_query prefix)
