use Rattle.gx_edit.proofs.FinMapLemmas.{inserted}
use Rattle.gx_edit.proofs.editor.nodes.put_name.Goals as goal

pub returns-clause-ok : goal.returns-clause-ok
returns-clause-ok c = rw c.in_ok-key.ensures.items at (inserted c.args.names.now.entries c.insert.new.self.entries c.in_ok-key.key _ c.in_ok-insert.ensures.entries)
