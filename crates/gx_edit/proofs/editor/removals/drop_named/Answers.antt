use Rattle.std.proofs.Common.{◌∙◌, ap, subst, List, ◌∷◌}
use Rattle.gx_edit.specs.Path.{Path, components}
use Rattle.gx_edit.specs.Nodes.{places_of, Goes, Follows}
use Rattle.gx_edit.specs.declared.editor.nodes.Node.{Node}
use Rattle.gx_edit.proofs.ComponentLemmas.{some_name}
use Rattle.gx_edit.proofs.PushLemmas.{within_nodes}
use Rattle.gx_edit.proofs.DropLemmas.{kept_all, along_ok, along_spared, along_refused, here_ok, here_spared, here_refused}
use Rattle.gx_edit.proofs.editor.removals.drop_named.Goals as goal

pub take_entry-requires : goal.take_entry-requires
take_entry-requires g c =
    let f = subst (λ (ns : List Node). Follows (places_of ns) (components c.args.path.now) c.follow-at.result.0 (components c.follow-at.result.1.now)) c.deref.ensures.value c.follow-at.ensures in
    within_nodes c.args.nodes.now c.follow-at.result.0 f.goes.within

pub drop_below-requires-clause-within : goal.drop_below-requires-clause-within
drop_below-requires-clause-within g c =
    let f = subst (λ (ns : List Node). Follows (places_of ns) (components c.args.path.now) c.follow-at.result.0 (components c.follow-at.result.1.now)) c.deref.ensures.value c.follow-at.ensures in
    within_nodes c.args.nodes.now c.follow-at.result.0 f.goes.within

pub drop_below-requires-clause-fresh : goal.drop_below-requires-clause-fresh
drop_below-requires-clause-fresh g c =
    let f = subst (λ (ns : List Node). Follows (places_of ns) (components c.args.path.now) c.follow-at.result.0 (components c.follow-at.result.1.now)) c.deref.ensures.value c.follow-at.ensures in
    let s = some_name c.in-Some.below.now in
    f.stops c.in-Some.name.now s.0 s.1 (c.in-Some.ensures.parts ∙ ap (λ (p : Path). c.in-Some.name.now ∷ p) s.2)

pub returns-in-None-clause-ok : goal.returns-in-None-clause-ok
returns-in-None-clause-ok g c =
    let f = subst (λ (ns : List Node). Follows (places_of ns) (components c.args.path.now) c.follow-at.result.0 (components c.follow-at.result.1.now)) c.deref.ensures.value c.follow-at.ensures in
    here_ok c.take_entry.result (g.S.Meanings.state c.args.store.now) (places_of c.args.nodes.now.items) c.requires.links (components c.args.path.now) c.follow-at.result.0 c.follow-at.result.1.now
    (subst (λ (r : Path). Goes (places_of c.args.nodes.now.items) (components c.args.path.now) c.follow-at.result.0 r) c.in-None.ensures.parts f.goes) (places_of c.take_entry.new.nodes.items) c.take_entry.ensures.ok

pub returns-in-None-clause-spared : goal.returns-in-None-clause-spared
returns-in-None-clause-spared g c =
    let f = subst (λ (ns : List Node). Follows (places_of ns) (components c.args.path.now) c.follow-at.result.0 (components c.follow-at.result.1.now)) c.deref.ensures.value c.follow-at.ensures in
    here_spared c.take_entry.result (g.S.Meanings.state c.args.store.now) (places_of c.args.nodes.now.items) c.requires.links (components c.args.path.now) c.follow-at.result.0 c.follow-at.result.1.now
    (subst (λ (r : Path). Goes (places_of c.args.nodes.now.items) (components c.args.path.now) c.follow-at.result.0 r) c.in-None.ensures.parts f.goes) c.args.spare c.take_entry.ensures.spared

pub returns-in-None-clause-err : goal.returns-in-None-clause-err
returns-in-None-clause-err g c = kept_all c.take_entry.result (places_of c.args.nodes.now.items) (places_of c.take_entry.new.nodes.items) c.take_entry.ensures.err

pub returns-in-None-clause-refused : goal.returns-in-None-clause-refused
returns-in-None-clause-refused g c =
    let f = subst (λ (ns : List Node). Follows (places_of ns) (components c.args.path.now) c.follow-at.result.0 (components c.follow-at.result.1.now)) c.deref.ensures.value c.follow-at.ensures in
    here_refused c.take_entry.result (g.S.Meanings.state c.args.store.now) (places_of c.args.nodes.now.items) c.requires.links (components c.args.path.now) c.follow-at.result.0 c.follow-at.result.1.now
    (subst (λ (r : Path). Goes (places_of c.args.nodes.now.items) (components c.args.path.now) c.follow-at.result.0 r) c.in-None.ensures.parts f.goes) c.args.spare c.take_entry.ensures.refused

pub returns-in-Some-clause-ok : goal.returns-in-Some-clause-ok
returns-in-Some-clause-ok g c =
    let f = subst (λ (ns : List Node). Follows (places_of ns) (components c.args.path.now) c.follow-at.result.0 (components c.follow-at.result.1.now)) c.deref.ensures.value c.follow-at.ensures in
    along_ok c.drop_below.result (g.S.Meanings.state c.args.store.now) (places_of c.args.nodes.now.items) c.requires.links (components c.args.path.now) c.follow-at.result.0 c.in-Some.name.now (components c.in-Some.below.now)
    (subst (λ (r : Path). Goes (places_of c.args.nodes.now.items) (components c.args.path.now) c.follow-at.result.0 r) c.in-Some.ensures.parts f.goes) (places_of c.drop_below.new.nodes.items) c.drop_below.ensures.ok

pub returns-in-Some-clause-spared : goal.returns-in-Some-clause-spared
returns-in-Some-clause-spared g c =
    let f = subst (λ (ns : List Node). Follows (places_of ns) (components c.args.path.now) c.follow-at.result.0 (components c.follow-at.result.1.now)) c.deref.ensures.value c.follow-at.ensures in
    along_spared c.drop_below.result (g.S.Meanings.state c.args.store.now) (places_of c.args.nodes.now.items) c.requires.links (components c.args.path.now) c.follow-at.result.0 c.in-Some.name.now (components c.in-Some.below.now)
    (subst (λ (r : Path). Goes (places_of c.args.nodes.now.items) (components c.args.path.now) c.follow-at.result.0 r) c.in-Some.ensures.parts f.goes) c.args.spare c.drop_below.ensures.spared

pub returns-in-Some-clause-refused : goal.returns-in-Some-clause-refused
returns-in-Some-clause-refused g c =
    let f = subst (λ (ns : List Node). Follows (places_of ns) (components c.args.path.now) c.follow-at.result.0 (components c.follow-at.result.1.now)) c.deref.ensures.value c.follow-at.ensures in
    along_refused c.drop_below.result (g.S.Meanings.state c.args.store.now) (places_of c.args.nodes.now.items) c.requires.links (components c.args.path.now) c.follow-at.result.0 c.in-Some.name.now (components c.in-Some.below.now)
    (subst (λ (r : Path). Goes (places_of c.args.nodes.now.items) (components c.args.path.now) c.follow-at.result.0 r) c.in-Some.ensures.parts f.goes) c.args.spare c.drop_below.ensures.refused
