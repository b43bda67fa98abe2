use Rattle.std.proofs.Common.{sym}
use Rattle.gx_edit.specs.Nodes.{place_of}
use Rattle.gx_edit.proofs.NodeLoads.{loaded_none, loaded_result}
use Rattle.gx_edit.proofs.editor.load.load.Goals as goal

pub returns-in-None-clause-loaded : goal.returns-in-None-clause-loaded
returns-in-None-clause-loaded g c = loaded_none (g.S.Meanings.state c.args.store.now) c.args.item (place_of c.new_node.result) (sym c.in-None.ensures) c.new_node.ensures

pub returns-in-Some-clause-loaded : goal.returns-in-Some-clause-loaded
returns-in-Some-clause-loaded g c = loaded_result (g.S.Meanings.state c.args.store.now) c.args.item c.in-Some.id c.node_at.result (sym c.in-Some.ensures) c.node_at.ensures.none_inside c.node_at.ensures.names
