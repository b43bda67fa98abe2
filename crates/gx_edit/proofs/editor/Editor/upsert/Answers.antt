use Rattle.gx_edit.specs.Path.{components}
use Rattle.gx_edit.specs.Nodes.{places_of}
use Rattle.gx_edit.specs.View.{item_of_kind}
use Rattle.gx_edit.proofs.UpsertLemmas.{edited_view}
use Rattle.gx_edit.proofs.ReadableLemmas.{upserted_loads}
use Rattle.gx_edit.proofs.editor.Editor.upsert.Goals as goal

pub returns-clause-ok : goal.returns-clause-ok
returns-clause-ok g c =
    edited_view c.put_path.result (g.S.Meanings.state c.args.store.now) (places_of c.args.self.now.nodes.items) (places_of c.put_path.new.nodes.items) (components c.args.path.now) (record { mode = c.from.result; id = c.args.id }) (item_of_kind c.args.kind c.args.id)
    (λ i. record { mode = record { value = c.from.ensures i }; id = c.args.id }) c.put_path.ensures.ok

pub returns-clause-loads : goal.returns-clause-loads
returns-clause-loads g c =
    upserted_loads c.put_path.result (g.S.Meanings.state c.args.store.now) (c.bytes_are_read_in_one_way.ensures.always (g.S.Meanings.state c.args.store.now).hash) (places_of c.args.self.now.nodes.items) (places_of c.put_path.new.nodes.items) (components c.args.path.now)
    (record { mode = c.from.result; id = c.args.id }) c.put_path.ensures.ok
