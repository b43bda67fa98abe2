use Rattle.std.proofs.lemmas.Result.{err_from_is_err_and}
use Rattle.gx_edit.specs.Path.{components}
use Rattle.gx_edit.specs.Nodes.{places_of}
use Rattle.gx_edit.proofs.PushLemmas.{within_places, within_nodes}
use Rattle.gx_edit.proofs.DescendLemmas.{descending_start, descending_more, descending_done, descending_keeps, descending_refused}
use Rattle.gx_edit.proofs.editor.paths.descend.Goals as goal

pub loop-name-init : goal.loop-name-init
loop-name-init g c = descending_start (g.S.Meanings.state c.args.store.now) (places_of c.args.nodes.now.items) c.args.from (components c.args.path.now) c.requires.links (within_places c.args.nodes.now c.args.from c.requires.within) c.requires.fresh

pub open-requires-clause-within : goal.open-requires-clause-within
open-requires-clause-within g c = within_nodes c.loop-name.nodes c.loop-name.at c.loop-name.invariant.along.within

pub loop-name-preserved : goal.loop-name-preserved
loop-name-preserved g c =
    descending_more (g.S.Meanings.state c.args.store.now) (places_of c.args.nodes.now.items) c.args.from (components c.args.path.now) (places_of c.loop-name.nodes.items) c.loop-name.at (components c.loop-name.rest.now) c.loop-name.invariant
    (places_of c.open.new.nodes.items) _ c.in-Some.name.now (components c.in-Some.below.now) c.in-Some.ensures.parts (within_places c.args.nodes.now c.args.from c.requires.within) c.in_ok-at.ensures.ok

pub returns-in_err-at-clause-err : goal.returns-in_err-at-clause-err
returns-in_err-at-clause-err g c =
    let p = err_from_is_err_and c.from_residual.result c.from_residual.ensures.1 in
    rw p.1 (descending_keeps (g.S.Meanings.state c.args.store.now) (places_of c.args.nodes.now.items) c.args.from (components c.args.path.now) (places_of c.loop-name.nodes.items) c.loop-name.at (components c.loop-name.rest.now) c.loop-name.invariant
    (places_of c.open.new.nodes.items) c.in_err-at.ensures.err)

pub returns-in_err-at-clause-refused : goal.returns-in_err-at-clause-refused
returns-in_err-at-clause-refused g c =
    let p = err_from_is_err_and c.from_residual.result c.from_residual.ensures.1 in
    rw (p.1, p.2) (descending_refused (g.S.Meanings.state c.args.store.now) (places_of c.args.nodes.now.items) c.args.from (components c.args.path.now) (places_of c.loop-name.nodes.items) c.loop-name.at (components c.loop-name.rest.now) c.loop-name.invariant
    c.in-Some.name.now (components c.in-Some.below.now) _ c.in-Some.ensures.parts c.in-Some.ensures.more c.in_err-at.ensures.refused)

pub returns-clause-ok : goal.returns-clause-ok
returns-clause-ok g c =
    descending_done (g.S.Meanings.state c.args.store.now) (places_of c.args.nodes.now.items) c.args.from (components c.args.path.now) (places_of c.loop-name.nodes.items) c.loop-name.at (components c.loop-name.rest.now) c.loop-name.invariant
    c.loop-name.rest.now c.in_default.ensures.parts
