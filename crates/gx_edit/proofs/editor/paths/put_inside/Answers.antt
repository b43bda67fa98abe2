use Rattle.std.proofs.Common.{inl}
use Rattle.std.proofs.lemmas.Result.{err_from_is_err_and}
use Rattle.gx_edit.specs.Path.{components}
use Rattle.gx_edit.specs.Nodes.{places_of}
use Rattle.gx_edit.proofs.PushLemmas.{within_places, within_nodes, others_then}
use Rattle.gx_edit.proofs.DescendLemmas.{descends_others}
use Rattle.gx_edit.proofs.UpsertLemmas.{puts_inside}
use Rattle.gx_edit.proofs.editor.paths.put_inside.Goals as goal

pub put_at-requires : goal.put_at-requires
put_at-requires g c = within_nodes c.descend.new.nodes _ c.in_ok-last.ensures.ok.within

pub returns-in_err-put_at-clause-err : goal.returns-in_err-put_at-clause-err
returns-in_err-put_at-clause-err g c =
    let p = err_from_is_err_and c.from_residual-in_err-put_at.result c.from_residual-in_err-put_at.ensures.1 in
    rw p.1 (others_then (places_of c.args.nodes.now.items) (places_of c.descend.new.nodes.items) (places_of c.put_at.new.nodes.items) c.args.from
    (descends_others (g.S.Meanings.state c.args.store.now) (places_of c.args.nodes.now.items) c.args.from (components c.args.path.now) (places_of c.descend.new.nodes.items) _ _ c.in_ok-last.ensures.ok) c.in_err-put_at.ensures.err)

pub returns-in_err-put_at-clause-refused : goal.returns-in_err-put_at-clause-refused
returns-in_err-put_at-clause-refused g c =
    let p = err_from_is_err_and c.from_residual-in_err-put_at.result c.from_residual-in_err-put_at.ensures.1 in
    rw p.1 (inl p.2)

pub returns-clause-ok : goal.returns-clause-ok
returns-clause-ok g c =
    puts_inside (g.S.Meanings.state c.args.store.now) (places_of c.args.nodes.now.items) (places_of c.descend.new.nodes.items) (places_of c.put_at.new.nodes.items) c.args.from (components c.args.path.now) _ _ c.args.item
    (within_places c.args.nodes.now c.args.from c.requires.within) c.in_ok-last.ensures.ok c.in_ok-put_at.ensures.ok
