use Rattle.gx_store.proofs.ContentLemmas.{adds_together}
use Rattle.gx_store.proofs.laws.adds_together.Goals as goal

pub returns : goal.returns
returns c = adds_together
