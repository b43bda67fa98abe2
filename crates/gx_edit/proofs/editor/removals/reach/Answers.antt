use Rattle.std.proofs.Common.{◌∙◌, ap, sym, List}
use Rattle.std.specs.Prelude.{slice_get}
use Rattle.std.proofs.lemmas.Result.{err_from_is_err_and}
use Rattle.gx_edit.specs.Path.{components}
use Rattle.gx_edit.specs.Nodes.{places_of, name_at}
use Rattle.gx_edit.specs.View.{leads}
use Rattle.gx_edit.specs.declared.editor.nodes.Node.{Node}
use Rattle.gx_edit.proofs.PushLemmas.{within_places, within_nodes}
use Rattle.gx_edit.proofs.DescendLemmas.{descending_keeps, descending_refused, reaching_start, reaching_more, reaching_done, reaching_stops}
use Rattle.gx_edit.proofs.editor.removals.reach.Goals as goal

pub loop-name-init : goal.loop-name-init
loop-name-init g c = reaching_start (g.S.Meanings.state c.args.store.now) (places_of c.args.nodes.now.items) c.args.from (components c.args.path.now) c.requires.links (within_places c.args.nodes.now c.args.from c.requires.within) c.requires.fresh

pub open-requires-clause-within : goal.open-requires-clause-within
open-requires-clause-within g c = within_nodes c.loop-name.nodes c.loop-name.at c.loop-name.invariant.way.along.within

pub open-requires-clause-links : goal.open-requires-clause-links
open-requires-clause-links g c = c.loop-name.invariant.way.along.links

pub open-requires-clause-fresh : goal.open-requires-clause-fresh
open-requires-clause-fresh g c = c.loop-name.invariant.way.along.none_inside c.in-Some.name.now

pub returns-then-not-is_tree-clause-ok : goal.returns-then-not-is_tree-clause-ok
returns-then-not-is_tree-clause-ok g c =
    reaching_stops (g.S.Meanings.state c.args.store.now) (places_of c.args.nodes.now.items) c.args.from (components c.args.path.now) (places_of c.loop-name.nodes.items) c.loop-name.at (components c.loop-name.rest.now) c.loop-name.invariant
    c.in-Some.name.now (components c.in-Some.below.now) c.in-Some.ensures.parts c.in-Some.ensures.more
    (ap leads (sym (c.name_at.ensures ∙ ap (λ (ns : List Node). name_at (slice_get (places_of ns) c.loop-name.at) c.in-Some.name.now) c.deref.ensures.value)) ∙ sym c.is_tree.ensures ∙ c.if-not-is_tree.true)

pub loop-name-preserved : goal.loop-name-preserved
loop-name-preserved g c =
    reaching_more (g.S.Meanings.state c.args.store.now) (places_of c.args.nodes.now.items) c.args.from (components c.args.path.now) (places_of c.loop-name.nodes.items) c.loop-name.at (components c.loop-name.rest.now) c.loop-name.invariant
    (places_of c.open.new.nodes.items) _ c.in-Some.name.now (components c.in-Some.below.now) c.in-Some.ensures.parts (within_places c.args.nodes.now c.args.from c.requires.within)
    (ap leads (sym (c.name_at.ensures ∙ ap (λ (ns : List Node). name_at (slice_get (places_of ns) c.loop-name.at) c.in-Some.name.now) c.deref.ensures.value)) ∙ sym c.is_tree.ensures ∙ c.if-not-is_tree.false)
    c.in_ok-at.ensures.ok

pub returns-in_err-at-clause-err : goal.returns-in_err-at-clause-err
returns-in_err-at-clause-err g c =
    let p = err_from_is_err_and c.from_residual.result c.from_residual.ensures.1 in
    rw p.1 (descending_keeps (g.S.Meanings.state c.args.store.now) (places_of c.args.nodes.now.items) c.args.from (components c.args.path.now) (places_of c.loop-name.nodes.items) c.loop-name.at (components c.loop-name.rest.now) c.loop-name.invariant.way
    (places_of c.open.new.nodes.items) c.in_err-at.ensures.err)

pub returns-in_err-at-clause-refused : goal.returns-in_err-at-clause-refused
returns-in_err-at-clause-refused g c =
    let p = err_from_is_err_and c.from_residual.result c.from_residual.ensures.1 in
    rw (p.1, p.2) (descending_refused (g.S.Meanings.state c.args.store.now) (places_of c.args.nodes.now.items) c.args.from (components c.args.path.now) (places_of c.loop-name.nodes.items) c.loop-name.at (components c.loop-name.rest.now) c.loop-name.invariant.way
    c.in-Some.name.now (components c.in-Some.below.now) _ c.in-Some.ensures.parts c.in-Some.ensures.more c.in_err-at.ensures.refused)

pub returns-clause-ok : goal.returns-clause-ok
returns-clause-ok g c =
    reaching_done (g.S.Meanings.state c.args.store.now) (places_of c.args.nodes.now.items) c.args.from (components c.args.path.now) (places_of c.loop-name.nodes.items) c.loop-name.at (components c.loop-name.rest.now) c.loop-name.invariant
    c.loop-name.rest.now c.in_default.ensures.parts
