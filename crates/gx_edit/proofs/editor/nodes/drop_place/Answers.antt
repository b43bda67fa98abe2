use Rattle.gx_edit.proofs.FinMapLemmas.{removed}
use Rattle.gx_edit.proofs.editor.nodes.drop_place.Goals as goal

pub returns : goal.returns
returns c = removed c.args.inner.now.entries c.remove.new.self.entries c.args.name.now c.remove.ensures.entries c.remove.ensures.updates.1
