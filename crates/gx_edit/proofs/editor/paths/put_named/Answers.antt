use Rattle.std.proofs.Common.{◌∙◌, ap, subst, List, ◌∷◌, []}
use Rattle.gx_edit.specs.Path.{Path, components}
use Rattle.gx_edit.specs.Nodes.{places_of, Goes, Follows}
use Rattle.gx_edit.specs.declared.editor.nodes.Node.{Node}
use Rattle.gx_edit.proofs.ComponentLemmas.{some_name}
use Rattle.gx_edit.proofs.UpsertLemmas.{puts_here, edits_along, edits_result, refused_result}
use Rattle.gx_edit.proofs.editor.paths.put_named.Goals as goal

pub put_below-requires-clause-fresh : goal.put_below-requires-clause-fresh
put_below-requires-clause-fresh g c =
    let f = subst (λ (ns : List Node). Follows (places_of ns) (components c.args.path.now) c.follow-at.result.0 (components c.follow-at.result.1.now)) c.deref.ensures.value c.follow-at.ensures in
    let s = some_name c.in-Some.below.now in
    f.stops c.in-Some.name.now s.0 s.1 (c.in-Some.ensures.parts ∙ ap (λ (p : Path). c.in-Some.name.now ∷ p) s.2)

pub returns-in_ok-put_at-in-None-clause-ok : goal.returns-in_ok-put_at-in-None-clause-ok
returns-in_ok-put_at-in-None-clause-ok g c =
    let f = subst (λ (ns : List Node). Follows (places_of ns) (components c.args.path.now) c.follow-at.result.0 (components c.follow-at.result.1.now)) c.deref.ensures.value c.follow-at.ensures in
    edits_along (g.S.Meanings.state c.args.store.now) (places_of c.args.nodes.now.items) (places_of c.put_at.new.nodes.items) c.requires.links (components c.args.path.now) c.follow-at.result.0 c.follow-at.result.1.now [] c.args.item
    (subst (λ (r : Path). Goes (places_of c.args.nodes.now.items) (components c.args.path.now) c.follow-at.result.0 r) c.in-None.ensures.parts f.goes)
    (puts_here (g.S.Meanings.state c.args.store.now) (places_of c.args.nodes.now.items) (places_of c.put_at.new.nodes.items) c.follow-at.result.0 c.follow-at.result.1.now c.args.item c.requires.links f.goes.within c.in_ok-put_at-in-None.ensures.ok)

pub returns-in-Some-clause-ok : goal.returns-in-Some-clause-ok
returns-in-Some-clause-ok g c =
    let f = subst (λ (ns : List Node). Follows (places_of ns) (components c.args.path.now) c.follow-at.result.0 (components c.follow-at.result.1.now)) c.deref.ensures.value c.follow-at.ensures in
    edits_result c.put_below.result (g.S.Meanings.state c.args.store.now) (places_of c.args.nodes.now.items) (places_of c.put_below.new.nodes.items) c.requires.links (components c.args.path.now) c.follow-at.result.0 c.in-Some.name.now (components c.in-Some.below.now) c.args.item
    (subst (λ (r : Path). Goes (places_of c.args.nodes.now.items) (components c.args.path.now) c.follow-at.result.0 r) c.in-Some.ensures.parts f.goes) c.put_below.ensures.ok

pub returns-in-Some-clause-refused : goal.returns-in-Some-clause-refused
returns-in-Some-clause-refused g c =
    let f = subst (λ (ns : List Node). Follows (places_of ns) (components c.args.path.now) c.follow-at.result.0 (components c.follow-at.result.1.now)) c.deref.ensures.value c.follow-at.ensures in
    refused_result c.put_below.result (g.S.Meanings.state c.args.store.now) (places_of c.args.nodes.now.items) c.requires.links (components c.args.path.now) c.follow-at.result.0 c.in-Some.name.now (components c.in-Some.below.now)
    (subst (λ (r : Path). Goes (places_of c.args.nodes.now.items) (components c.args.path.now) c.follow-at.result.0 r) c.in-Some.ensures.parts f.goes) c.put_below.ensures.refused
