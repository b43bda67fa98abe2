use Rattle.std.proofs.Common.{◌∙◌, [], ap}
use Rattle.gx_actor.specs.Identity.{identity}
use Rattle.gx_actor.specs.Index.{key_of, look}
use Rattle.gx_actor.proofs.IndexLemmas.{found_named, found_bare, found_none}
use Rattle.gx_actor.proofs.mailmap.snapshot.Snapshot.resolve.Goals as goal

pub returns-in-Some : goal.returns-in-Some
returns-in-Some c =
    let some = c.in-Some.ensures ∙ ap (λ s. look s (key_of c.as_bytes.result.now c.as_bytes-2.result.now)) c.deref.ensures.value in
    c.replaced.ensures
    ∙ rw (c.deref-in-Some.ensures.value, ← c.self.view_is)
    (found_named c.self.inside.entries.items c.self.inside.index.items c.in-Some.places (identity c.args.id) c.as_bytes.result.now c.as_bytes-2.result.now c.self.invariant c.as_bytes.ensures c.as_bytes-2.ensures some)

pub returns-in-Some-places_of : goal.returns-in-Some-places_of
returns-in-Some-places_of c =
    let none = c.in-None.ensures ∙ ap (λ s. look s (key_of c.as_bytes.result.now c.as_bytes-2.result.now)) c.deref.ensures.value in
    let some = c.in-Some-places_of.ensures ∙ ap (λ s. look s (key_of c.as_bytes-in-None.result.now [])) c.deref-in-None.ensures.value in
    c.replaced-in-Some-places_of.ensures
    ∙ rw (c.deref-in-Some-places_of.ensures.value, ← c.self.view_is)
    (found_bare c.self.inside.entries.items c.self.inside.index.items c.in-Some-places_of.places (identity c.args.id) c.as_bytes.result.now c.as_bytes-2.result.now c.as_bytes-in-None.result.now c.self.invariant c.as_bytes.ensures c.as_bytes-2.ensures c.as_bytes-in-None.ensures none some)

pub returns-in-None-places_of : goal.returns-in-None-places_of
returns-in-None-places_of c =
    let none = c.in-None.ensures ∙ ap (λ s. look s (key_of c.as_bytes.result.now c.as_bytes-2.result.now)) c.deref.ensures.value in
    let bare = c.in-None-places_of.ensures ∙ ap (λ s. look s (key_of c.as_bytes-in-None.result.now [])) c.deref-in-None.ensures.value in
    rw (← c.self.view_is) (found_none c.self.inside.entries.items c.self.inside.index.items (identity c.args.id) c.as_bytes.result.now c.as_bytes-2.result.now c.as_bytes-in-None.result.now c.self.invariant c.as_bytes.ensures c.as_bytes-2.ensures c.as_bytes-in-None.ensures none bare)
