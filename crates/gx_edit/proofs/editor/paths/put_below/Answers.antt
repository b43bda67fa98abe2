use Rattle.std.proofs.Common.{subst, inl}
use Rattle.std.specs.Prelude.{slice_get}
use Rattle.std.proofs.lemmas.Result.{err_from_is_err_and}
use Rattle.gx_edit.specs.Path.{components}
use Rattle.gx_edit.specs.View.{new_tree}
use Rattle.gx_edit.specs.Nodes.{Changes, places_of, name_at, linked}
use Rattle.gx_edit.proofs.ComponentLemmas.{some_name}
use Rattle.gx_edit.proofs.PushLemmas.{within_places, within_nodes, inner_within, inner_fresh, pushed_links, pushed_keeps, keeps_same, makes_within, makes_fresh, makes_keeps}
use Rattle.gx_edit.proofs.WayLemmas.{refused_load, refused_pushed}
use Rattle.gx_edit.proofs.UpsertLemmas.{puts_below}
use Rattle.gx_edit.proofs.editor.paths.put_below.Goals as goal

pub returns-in_err-inner-clause-err : goal.returns-in_err-inner-clause-err
returns-in_err-inner-clause-err g c =
    let p = err_from_is_err_and c.from_residual.result c.from_residual.ensures.1 in
    rw p.1 (keeps_same (places_of c.args.nodes.now.items) (places_of c.push_loaded.new.nodes.items) c.in_err-inner.ensures.err)

pub returns-in_err-inner-clause-refused : goal.returns-in_err-inner-clause-refused
returns-in_err-inner-clause-refused g c =
    let p = err_from_is_err_and c.from_residual.result c.from_residual.ensures.1 in
    let s = some_name c.args.path.now in
    rw (p.1, p.2) (refused_load (g.S.Meanings.state c.args.store.now) (places_of c.args.nodes.now.items) c.args.at c.args.name.now s.0 (components c.args.path.now) s.1 _ c.requires.fresh s.2 c.in_err-inner.ensures.refused)

pub put_inside-requires-clause-within : goal.put_inside-requires-clause-within
put_inside-requires-clause-within g c =
    within_nodes c.push_loaded.new.nodes c.in_ok-inner.inner (inner_within (g.S.Meanings.state c.args.store.now) (places_of c.args.nodes.now.items) (places_of c.push_loaded.new.nodes.items) (name_at (slice_get (places_of c.args.nodes.now.items) c.args.at) c.args.name.now) c.in_ok-inner.inner c.in_ok-inner.ensures.ok)

pub put_inside-requires-clause-links : goal.put_inside-requires-clause-links
put_inside-requires-clause-links g c =
    pushed_links (g.S.Meanings.state c.args.store.now) (places_of c.args.nodes.now.items) (places_of c.push_loaded.new.nodes.items) (name_at (slice_get (places_of c.args.nodes.now.items) c.args.at) c.args.name.now) c.in_ok-inner.inner c.in_ok-inner.ensures.ok c.requires.links

pub put_inside-requires-clause-fresh : goal.put_inside-requires-clause-fresh
put_inside-requires-clause-fresh g c =
    inner_fresh (g.S.Meanings.state c.args.store.now) (places_of c.args.nodes.now.items) (places_of c.push_loaded.new.nodes.items) (name_at (slice_get (places_of c.args.nodes.now.items) c.args.at) c.args.name.now) c.in_ok-inner.inner c.in_ok-inner.ensures.ok

pub returns-in_err-put_inside-clause-err : goal.returns-in_err-put_inside-clause-err
returns-in_err-put_inside-clause-err g c =
    let p = err_from_is_err_and c.from_residual-in_err-put_inside.result c.from_residual-in_err-put_inside.ensures.1 in
    rw p.1 (pushed_keeps (g.S.Meanings.state c.args.store.now) (places_of c.args.nodes.now.items) (places_of c.push_loaded.new.nodes.items) (name_at (slice_get (places_of c.args.nodes.now.items) c.args.at) c.args.name.now) c.in_ok-inner.inner c.in_ok-inner.ensures.ok
    (places_of c.put_inside.new.nodes.items) c.in_err-put_inside.ensures.err)

pub returns-in_err-put_inside-clause-refused : goal.returns-in_err-put_inside-clause-refused
returns-in_err-put_inside-clause-refused g c =
    let p = err_from_is_err_and c.from_residual-in_err-put_inside.result c.from_residual-in_err-put_inside.ensures.1 in
    rw (p.1, p.2) (refused_pushed (g.S.Meanings.state c.args.store.now) (places_of c.args.nodes.now.items) (places_of c.push_loaded.new.nodes.items) c.args.at c.args.name.now c.in_ok-inner.inner c.requires.links c.in_ok-inner.ensures.ok c.requires.fresh (components c.args.path.now) _ c.in_err-put_inside.ensures.refused)

pub link_at-requires-clause-within : goal.link_at-requires-clause-within
link_at-requires-clause-within g c = within_nodes c.put_inside.new.nodes c.args.at (makes_within (g.S.Meanings.state c.args.store.now) (places_of c.args.nodes.now.items) (places_of c.push_loaded.new.nodes.items) (places_of c.put_inside.new.nodes.items) (name_at (slice_get (places_of c.args.nodes.now.items) c.args.at) c.args.name.now) c.in_ok-inner.inner _ c.in_ok-inner.ensures.ok c.in_ok-put_inside.ensures.ok c.args.at (within_places c.args.nodes.now c.args.at c.requires.within))

pub link_at-requires-clause-fresh : goal.link_at-requires-clause-fresh
link_at-requires-clause-fresh g c = makes_fresh (g.S.Meanings.state c.args.store.now) (places_of c.args.nodes.now.items) (places_of c.push_loaded.new.nodes.items) (places_of c.put_inside.new.nodes.items) (name_at (slice_get (places_of c.args.nodes.now.items) c.args.at) c.args.name.now) c.in_ok-inner.inner _ c.in_ok-inner.ensures.ok c.in_ok-put_inside.ensures.ok c.args.at c.args.name.now (within_places c.args.nodes.now c.args.at c.requires.within) c.requires.fresh

pub returns-in_err-link_at-clause-err : goal.returns-in_err-link_at-clause-err
returns-in_err-link_at-clause-err g c =
    let p = err_from_is_err_and c.from_residual-in_err-link_at.result c.from_residual-in_err-link_at.ensures.1 in
    rw p.1 (makes_keeps (g.S.Meanings.state c.args.store.now) (places_of c.args.nodes.now.items) (places_of c.push_loaded.new.nodes.items) (places_of c.put_inside.new.nodes.items) (name_at (slice_get (places_of c.args.nodes.now.items) c.args.at) c.args.name.now) c.in_ok-inner.inner _ c.in_ok-inner.ensures.ok c.in_ok-put_inside.ensures.ok (places_of c.link_at.new.nodes.items) c.in_err-link_at.ensures.err)

pub returns-in_err-link_at-clause-refused : goal.returns-in_err-link_at-clause-refused
returns-in_err-link_at-clause-refused g c =
    let p = err_from_is_err_and c.from_residual-in_err-link_at.result c.from_residual-in_err-link_at.ensures.1 in
    rw p.1 (inl p.2)

pub returns-clause-ok : goal.returns-clause-ok
returns-clause-ok g c =
    let s = some_name c.args.path.now in
    puts_below (g.S.Meanings.state c.args.store.now) (places_of c.args.nodes.now.items) (places_of c.push_loaded.new.nodes.items) (places_of c.put_inside.new.nodes.items) (places_of c.link_at.new.nodes.items) c.requires.links c.args.at c.args.name.now c.in_ok-inner.inner
    (within_places c.args.nodes.now c.args.at c.requires.within) c.requires.fresh (components c.args.path.now) s.0 s.1 s.2 c.args.item c.in_ok-inner.ensures.ok c.in_ok-put_inside.ensures.ok
    (subst (λ h. Changes (places_of c.put_inside.new.nodes.items) c.args.at (linked c.args.name.now c.in_ok-inner.inner (new_tree h)) (places_of c.link_at.new.nodes.items)) c.requires.kind c.in_ok-link_at.ensures.ok)
