use Rattle.gix.proofs.CommitAsLemmas.{commit_as_lawful}
use Rattle.gix.proofs.object_laws.commit_as_is_lawful.Goals as goal

pub returns : goal.returns
returns c = commit_as_lawful
