use Rattle.gix.proofs.MachineLemmas.{commit_lawful}
use Rattle.gix.proofs.laws.commit_edits_is_lawful.Goals as goal

pub returns : goal.returns
returns c = commit_lawful
