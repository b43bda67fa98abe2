use Rattle.std.proofs.Common.{◌∙◌, ap, inl, List}
use Rattle.std.specs.Prelude.{slice_get}
use Rattle.std.proofs.lemmas.Result.{err_from_is_err_and}
use Rattle.gx_edit.specs.Nodes.{places_of, name_at}
use Rattle.gx_edit.proofs.NodeLoads.{refused_item}
use Rattle.gx_edit.specs.declared.editor.nodes.Node.{Node}
use Rattle.gx_edit.proofs.PushLemmas.{pushed}
use Rattle.gx_edit.proofs.editor.paths.push_loaded.Goals as goal

pub returns-in_err-node-clause-refused : goal.returns-in_err-node-clause-refused
returns-in_err-node-clause-refused g c =
    let p = err_from_is_err_and c.from_residual.result c.from_residual.ensures.1 in
    rw (p.1, p.2) (refused_item (g.S.Meanings.state c.args.store.now) c.name_at.result (name_at (slice_get (places_of c.args.nodes.now.items) c.args.at) c.args.name.now) _ (c.name_at.ensures ∙ ap (λ (ns : List Node). name_at (slice_get (places_of ns) c.args.at) c.args.name.now) c.deref.ensures.value) c.in_err-node.ensures.refused)

pub returns-in_err-push-clause-refused : goal.returns-in_err-push-clause-refused
returns-in_err-push-clause-refused g c =
    let p = err_from_is_err_and c.from_residual-in_err-push.result c.from_residual-in_err-push.ensures.1 in
    rw p.1 (inl p.2)

pub returns-clause-ok : goal.returns-clause-ok
returns-clause-ok g c =
    pushed (g.S.Meanings.state c.args.store.now) c.args.nodes.now c.push.new.self.items c.name_at.result (name_at (slice_get (places_of c.args.nodes.now.items) c.args.at) c.args.name.now) c.in_ok-node.node c.len-inner.result
    c.in_ok-push.ensures.items c.len-inner.ensures (c.name_at.ensures ∙ ap (λ (ns : List Node). name_at (slice_get (places_of ns) c.args.at) c.args.name.now) c.deref.ensures.value) c.in_ok-node.ensures.loaded
