use Rattle.gx_edit.specs.Path.{components}
use Rattle.gx_edit.specs.Nodes.{places_of, view_at}
use Rattle.gx_edit.proofs.DropLemmas.{dropped_view, leaf_dropped}
use Rattle.gx_edit.proofs.ReadableLemmas.{removed_loads}
use Rattle.gx_edit.proofs.editor.Editor.remove_leaf.Goals as goal

pub returns-clause-ok : goal.returns-clause-ok
returns-clause-ok g c = dropped_view c.drop_path.result (g.S.Meanings.state c.args.store.now) (places_of c.args.self.now.nodes.items) (places_of c.drop_path.new.nodes.items) (components c.args.path.now) c.drop_path.ensures.ok

pub returns-clause-leaf : goal.returns-clause-leaf
returns-clause-leaf g c = leaf_dropped c.drop_path.result (g.S.Meanings.state c.args.store.now) (view_at (places_of c.args.self.now.nodes.items) 0) (components c.args.path.now) c.drop_path.ensures.spared

pub returns-clause-loads : goal.returns-clause-loads
returns-clause-loads g c =
    removed_loads c.drop_path.result (g.S.Meanings.state c.args.store.now) (c.bytes_are_read_in_one_way.ensures.always (g.S.Meanings.state c.args.store.now).hash) (places_of c.args.self.now.nodes.items) (places_of c.drop_path.new.nodes.items) c.args.self.now.links
    (components c.args.path.now) c.drop_path.ensures.ok
