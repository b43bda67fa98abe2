use Rattle.gx_edit.proofs.TextLemmas.{inserted}
use Rattle.gx_edit.proofs.path_map.texts.insert_text.Goals as goal

pub returns-clause-ok : goal.returns-clause-ok
returns-clause-ok c = inserted c.args.map.now c.insert.new.self c.in_ok-key.key c.args.text.now c.args.leaf c.in_ok-key.ensures.items c.in_ok-insert.ensures.updates
