use Rattle.std.proofs.Common.{subst, inl}
use Rattle.std.specs.Prelude.{slice_get}
use Rattle.std.proofs.lemmas.Result.{err_from_is_err_and}
use Rattle.gx_edit.specs.Nodes.{Changes, places_of, name_at, linked}
use Rattle.gx_edit.specs.View.{new_tree}
use Rattle.gx_edit.proofs.PushLemmas.{within_places, within_nodes, pushed_within, pushed_fresh, pushed_keeps_same, keeps_same, opens_pushed}
use Rattle.gx_edit.proofs.editor.paths.open.Goals as goal

pub returns-in_err-inner-clause-err : goal.returns-in_err-inner-clause-err
returns-in_err-inner-clause-err g c =
    let p = err_from_is_err_and c.from_residual.result c.from_residual.ensures.1 in
    rw p.1 (keeps_same (places_of c.args.nodes.now.items) (places_of c.push_loaded.new.nodes.items) c.in_err-inner.ensures.err)

pub link_at-requires-clause-within : goal.link_at-requires-clause-within
link_at-requires-clause-within g c =
    within_nodes c.push_loaded.new.nodes c.args.at
    (pushed_within (g.S.Meanings.state c.args.store.now) (places_of c.args.nodes.now.items) (places_of c.push_loaded.new.nodes.items) (name_at (slice_get (places_of c.args.nodes.now.items) c.args.at) c.args.name.now) c.in_ok-inner.inner c.in_ok-inner.ensures.ok c.args.at (within_places c.args.nodes.now c.args.at c.requires.within))

pub link_at-requires-clause-fresh : goal.link_at-requires-clause-fresh
link_at-requires-clause-fresh g c =
    pushed_fresh (g.S.Meanings.state c.args.store.now) (places_of c.args.nodes.now.items) (places_of c.push_loaded.new.nodes.items) (name_at (slice_get (places_of c.args.nodes.now.items) c.args.at) c.args.name.now) c.in_ok-inner.inner c.in_ok-inner.ensures.ok c.args.at c.args.name.now
    (within_places c.args.nodes.now c.args.at c.requires.within) c.requires.fresh

pub returns-in_err-link_at-clause-err : goal.returns-in_err-link_at-clause-err
returns-in_err-link_at-clause-err g c =
    let p = err_from_is_err_and c.from_residual-in_err-link_at.result c.from_residual-in_err-link_at.ensures.1 in
    rw p.1 (pushed_keeps_same (g.S.Meanings.state c.args.store.now) (places_of c.args.nodes.now.items) (places_of c.push_loaded.new.nodes.items) (name_at (slice_get (places_of c.args.nodes.now.items) c.args.at) c.args.name.now) c.in_ok-inner.inner c.in_ok-inner.ensures.ok
    (places_of c.link_at.new.nodes.items) c.in_err-link_at.ensures.err)

pub returns-in_err-link_at-clause-refused : goal.returns-in_err-link_at-clause-refused
returns-in_err-link_at-clause-refused g c =
    let p = err_from_is_err_and c.from_residual-in_err-link_at.result c.from_residual-in_err-link_at.ensures.1 in
    rw p.1 (inl p.2)

pub returns-clause-ok : goal.returns-clause-ok
returns-clause-ok g c =
    opens_pushed (g.S.Meanings.state c.args.store.now) (places_of c.args.nodes.now.items) (places_of c.push_loaded.new.nodes.items) (places_of c.link_at.new.nodes.items) c.requires.links c.args.at c.args.name.now c.in_ok-inner.inner
    (within_places c.args.nodes.now c.args.at c.requires.within) c.requires.fresh c.in_ok-inner.ensures.ok
    (subst (λ h. Changes (places_of c.push_loaded.new.nodes.items) c.args.at (linked c.args.name.now c.in_ok-inner.inner (new_tree h)) (places_of c.link_at.new.nodes.items)) c.requires.kind c.in_ok-link_at.ensures.ok)
