use Rattle.gix.specs.Repository.{store_of}
use Rattle.gix.proofs.TreeEditorLemmas.{not_edited}
use Rattle.gix.proofs.repository.Repository.edit_tree.Goals as goal

pub returns-in-Err-clause-causes : goal.returns-in-Err-clause-causes
returns-in-Err-clause-causes g c = rw c.told.ensures (not_edited (g.S.Meanings.state (store_of c.args.self.now)) c.args.id c.in-Err.refusal c.in-Err.ensures.causes)
