use Rattle.gx_store.proofs.ContentLemmas.{others_are_kept}
use Rattle.gx_store.proofs.laws.others_are_kept.Goals as goal

pub returns : goal.returns
returns c = others_are_kept
