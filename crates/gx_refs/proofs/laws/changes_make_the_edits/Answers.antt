use Rattle.gx_refs.proofs.EditLemmas.{changes_make_edits}
use Rattle.gx_refs.proofs.laws.changes_make_the_edits.Goals as goal

pub returns : goal.returns
returns c = changes_make_edits
