use Rattle.gix.specs.Logs.{log_query}
use Rattle.gix.proofs.AskingLemmas.{asking_lawful}
use Rattle.gix.proofs.laws.log_is_lawful.Goals as goal

pub returns : goal.returns
returns c = λ name. asking_lawful (log_query name)
