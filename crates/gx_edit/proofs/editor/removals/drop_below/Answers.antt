use Rattle.std.proofs.Common.{◌∙◌, ap, sym, subst, inl, false, List}
use Rattle.std.specs.Prelude.{slice_get}
use Rattle.std.proofs.lemmas.Result.{err_from_is_err_and}
use Rattle.gx_edit.specs.Path.{components}
use Rattle.gx_edit.specs.View.{new_tree, leads}
use Rattle.gx_edit.specs.Nodes.{Changes, places_of, name_at, linked}
use Rattle.gx_edit.specs.declared.editor.nodes.Node.{Node}
use Rattle.gx_edit.proofs.ComponentLemmas.{some_name}
use Rattle.gx_edit.proofs.PushLemmas.{within_places, within_nodes, inner_within, inner_fresh, pushed_links, pushed_keeps, keeps_same, makes_within, makes_fresh, makes_keeps}
use Rattle.gx_edit.proofs.WayLemmas.{refused_load}
use Rattle.gx_edit.proofs.RemoveLemmas.{drops_nothing, nothing_spared, drops_below, tree_below, drop_refused_below}
use Rattle.gx_edit.proofs.editor.removals.drop_below.Goals as goal

pub returns-then-not-is_tree-clause-ok : goal.returns-then-not-is_tree-clause-ok
returns-then-not-is_tree-clause-ok g c =
    let s = some_name c.args.path.now in
    drops_nothing (g.S.Meanings.state c.args.store.now) (places_of c.args.nodes.now.items) c.args.at c.args.name.now (components c.args.path.now) s.0 s.1 s.2 c.requires.links
    (ap leads (sym (c.name_at.ensures ∙ ap (λ (ns : List Node). name_at (slice_get (places_of ns) c.args.at) c.args.name.now) c.deref.ensures.value)) ∙ sym c.is_tree.ensures ∙ c.if-not-is_tree.true)

pub returns-then-not-is_tree-clause-spared : goal.returns-then-not-is_tree-clause-spared
returns-then-not-is_tree-clause-spared g c = λ is.
    let s = some_name c.args.path.now in
    nothing_spared (g.S.Meanings.state c.args.store.now) (places_of c.args.nodes.now.items) c.args.at c.args.name.now (components c.args.path.now) s.0 s.1 s.2
    (ap leads (sym (c.name_at.ensures ∙ ap (λ (ns : List Node). name_at (slice_get (places_of ns) c.args.at) c.args.name.now) c.deref.ensures.value)) ∙ sym c.is_tree.ensures ∙ c.if-not-is_tree.true)

pub returns-in_err-inner-clause-err : goal.returns-in_err-inner-clause-err
returns-in_err-inner-clause-err g c =
    let p = err_from_is_err_and c.from_residual.result c.from_residual.ensures.1 in
    rw p.1 (keeps_same (places_of c.args.nodes.now.items) (places_of c.push_loaded.new.nodes.items) c.in_err-inner.ensures.err)

pub returns-in_err-inner-clause-refused : goal.returns-in_err-inner-clause-refused
returns-in_err-inner-clause-refused g c =
    let p = err_from_is_err_and c.from_residual.result c.from_residual.ensures.1 in
    let s = some_name c.args.path.now in
    rw (p.1, p.2) (inl (refused_load (g.S.Meanings.state c.args.store.now) (places_of c.args.nodes.now.items) c.args.at c.args.name.now s.0 (components c.args.path.now) s.1 _ c.requires.fresh s.2 c.in_err-inner.ensures.refused))

pub drop_inside-requires-clause-within : goal.drop_inside-requires-clause-within
drop_inside-requires-clause-within g c =
    within_nodes c.push_loaded.new.nodes c.in_ok-inner.inner (inner_within (g.S.Meanings.state c.args.store.now) (places_of c.args.nodes.now.items) (places_of c.push_loaded.new.nodes.items) (name_at (slice_get (places_of c.args.nodes.now.items) c.args.at) c.args.name.now) c.in_ok-inner.inner c.in_ok-inner.ensures.ok)

pub drop_inside-requires-clause-links : goal.drop_inside-requires-clause-links
drop_inside-requires-clause-links g c =
    pushed_links (g.S.Meanings.state c.args.store.now) (places_of c.args.nodes.now.items) (places_of c.push_loaded.new.nodes.items) (name_at (slice_get (places_of c.args.nodes.now.items) c.args.at) c.args.name.now) c.in_ok-inner.inner c.in_ok-inner.ensures.ok c.requires.links

pub drop_inside-requires-clause-fresh : goal.drop_inside-requires-clause-fresh
drop_inside-requires-clause-fresh g c =
    inner_fresh (g.S.Meanings.state c.args.store.now) (places_of c.args.nodes.now.items) (places_of c.push_loaded.new.nodes.items) (name_at (slice_get (places_of c.args.nodes.now.items) c.args.at) c.args.name.now) c.in_ok-inner.inner c.in_ok-inner.ensures.ok

pub returns-in_err-drop_inside-clause-err : goal.returns-in_err-drop_inside-clause-err
returns-in_err-drop_inside-clause-err g c =
    let p = err_from_is_err_and c.from_residual-in_err-drop_inside.result c.from_residual-in_err-drop_inside.ensures.1 in
    rw p.1 (pushed_keeps (g.S.Meanings.state c.args.store.now) (places_of c.args.nodes.now.items) (places_of c.push_loaded.new.nodes.items) (name_at (slice_get (places_of c.args.nodes.now.items) c.args.at) c.args.name.now) c.in_ok-inner.inner c.in_ok-inner.ensures.ok
    (places_of c.drop_inside.new.nodes.items) c.in_err-drop_inside.ensures.err)

pub returns-in_err-drop_inside-clause-refused : goal.returns-in_err-drop_inside-clause-refused
returns-in_err-drop_inside-clause-refused g c =
    let p = err_from_is_err_and c.from_residual-in_err-drop_inside.result c.from_residual-in_err-drop_inside.ensures.1 in
    let s = some_name c.args.path.now in
    rw (p.1, p.2) (drop_refused_below (g.S.Meanings.state c.args.store.now) (places_of c.args.nodes.now.items) c.args.at c.args.name.now (components c.args.path.now) s.0 s.1 s.2 (places_of c.push_loaded.new.nodes.items) c.in_ok-inner.inner c.requires.links c.in_ok-inner.ensures.ok
    (ap leads (sym (c.name_at.ensures ∙ ap (λ (ns : List Node). name_at (slice_get (places_of ns) c.args.at) c.args.name.now) c.deref.ensures.value)) ∙ sym c.is_tree.ensures ∙ c.if-not-is_tree.false)
    c.requires.fresh c.args.spare _ c.in_err-drop_inside.ensures.refused)

pub link_at-requires-clause-within : goal.link_at-requires-clause-within
link_at-requires-clause-within g c = within_nodes c.drop_inside.new.nodes c.args.at (makes_within (g.S.Meanings.state c.args.store.now) (places_of c.args.nodes.now.items) (places_of c.push_loaded.new.nodes.items) (places_of c.drop_inside.new.nodes.items) (name_at (slice_get (places_of c.args.nodes.now.items) c.args.at) c.args.name.now) c.in_ok-inner.inner _ c.in_ok-inner.ensures.ok c.in_ok-drop_inside.ensures.ok c.args.at (within_places c.args.nodes.now c.args.at c.requires.within))

pub link_at-requires-clause-fresh : goal.link_at-requires-clause-fresh
link_at-requires-clause-fresh g c = makes_fresh (g.S.Meanings.state c.args.store.now) (places_of c.args.nodes.now.items) (places_of c.push_loaded.new.nodes.items) (places_of c.drop_inside.new.nodes.items) (name_at (slice_get (places_of c.args.nodes.now.items) c.args.at) c.args.name.now) c.in_ok-inner.inner _ c.in_ok-inner.ensures.ok c.in_ok-drop_inside.ensures.ok c.args.at c.args.name.now (within_places c.args.nodes.now c.args.at c.requires.within) c.requires.fresh

pub returns-in_err-link_at-clause-err : goal.returns-in_err-link_at-clause-err
returns-in_err-link_at-clause-err g c =
    let p = err_from_is_err_and c.from_residual-in_err-link_at.result c.from_residual-in_err-link_at.ensures.1 in
    rw p.1 (makes_keeps (g.S.Meanings.state c.args.store.now) (places_of c.args.nodes.now.items) (places_of c.push_loaded.new.nodes.items) (places_of c.drop_inside.new.nodes.items) (name_at (slice_get (places_of c.args.nodes.now.items) c.args.at) c.args.name.now) c.in_ok-inner.inner _ c.in_ok-inner.ensures.ok c.in_ok-drop_inside.ensures.ok (places_of c.link_at.new.nodes.items) c.in_err-link_at.ensures.err)

pub returns-in_err-link_at-clause-refused : goal.returns-in_err-link_at-clause-refused
returns-in_err-link_at-clause-refused g c =
    let p = err_from_is_err_and c.from_residual-in_err-link_at.result c.from_residual-in_err-link_at.ensures.1 in
    rw p.1 (inl (inl p.2))

pub returns-clause-ok : goal.returns-clause-ok
returns-clause-ok g c =
    let s = some_name c.args.path.now in
    drops_below (g.S.Meanings.state c.args.store.now) (places_of c.args.nodes.now.items) c.args.at c.args.name.now (components c.args.path.now) s.0 s.1 s.2 (places_of c.push_loaded.new.nodes.items) c.in_ok-inner.inner c.requires.links c.in_ok-inner.ensures.ok
    (ap leads (sym (c.name_at.ensures ∙ ap (λ (ns : List Node). name_at (slice_get (places_of ns) c.args.at) c.args.name.now) c.deref.ensures.value)) ∙ sym c.is_tree.ensures ∙ c.if-not-is_tree.false)
    c.requires.fresh (places_of c.drop_inside.new.nodes.items) (places_of c.link_at.new.nodes.items)
    (within_places c.args.nodes.now c.args.at c.requires.within) c.in_ok-drop_inside.ensures.ok
    (subst (λ h. Changes (places_of c.drop_inside.new.nodes.items) c.args.at (linked c.args.name.now c.in_ok-inner.inner (new_tree h)) (places_of c.link_at.new.nodes.items)) c.requires.kind c.in_ok-link_at.ensures.ok)

pub returns-clause-spared : goal.returns-clause-spared
returns-clause-spared g c = λ is.
    let s = some_name c.args.path.now in
    tree_below (g.S.Meanings.state c.args.store.now) (places_of c.args.nodes.now.items) c.args.at c.args.name.now (components c.args.path.now) s.0 s.1 s.2 (places_of c.push_loaded.new.nodes.items) c.in_ok-inner.inner c.requires.links c.in_ok-inner.ensures.ok
    (ap leads (sym (c.name_at.ensures ∙ ap (λ (ns : List Node). name_at (slice_get (places_of ns) c.args.at) c.args.name.now) c.deref.ensures.value)) ∙ sym c.is_tree.ensures ∙ c.if-not-is_tree.false)
    c.requires.fresh false (c.in_ok-drop_inside.ensures.spared is)
