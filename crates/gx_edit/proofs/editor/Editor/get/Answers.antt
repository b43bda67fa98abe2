use Rattle.std.proofs.Common.{◌∙◌, sym, ap, subst, List, ◌∷◌, ℕ, option_map, length, ◌==◌, true≢false}
use Rattle.std.specs.Prelude.{slice_get}
use Rattle.gx_edit.specs.Path.{Path, components}
use Rattle.gx_edit.specs.Editor.{entry_named}
use Rattle.gx_edit.specs.Nodes.{places_of, view_at, name_at, Goes, Follows}
use Rattle.gx_edit.specs.declared.editor.nodes.Node.{Node}
use Rattle.gx_edit.proofs.ComponentLemmas.{some_name}
use Rattle.gx_edit.proofs.SeenLemmas.{seen_here, seen_nowhere, seen_named}
use Rattle.gx_edit.proofs.editor.Editor.get.Goals as goal

pub returns-in-Some : goal.returns-in-Some
returns-in-Some c =
    let f = subst (λ (ns : List Node). Follows (places_of ns) (components c.args.path.now) c.follow-at.result.0 (components c.follow-at.result.1.now)) c.deref.ensures.value c.follow-at.ensures in
    let s = some_name c.in-Some.field-0.1.now in
    let parts = c.in-Some.ensures.parts ∙ ap (λ (p : Path). c.in-Some.field-0.0.now ∷ p) s.2 in
    record {
      ok = seen_nowhere (places_of c.args.self.now.nodes.items) c.args.self.now.links (components c.args.path.now) c.follow-at.result.0 c.in-Some.field-0.0.now s.0 s.1
          (subst (λ (r : Path). Goes (places_of c.args.self.now.nodes.items) (components c.args.path.now) c.follow-at.result.0 r) parts f.goes)
          (f.stops c.in-Some.field-0.0.now s.0 s.1 parts)
          ∙ seen_named (view_at (places_of c.args.self.now.nodes.items) 0) c.args.path.now (λ none. true≢false (sym (c.is_empty.ensures ∙ ap (λ (l : List ℕ). length l == 0) none) ∙ c.if-is_empty.false));
    }

pub returns-in-None : goal.returns-in-None
returns-in-None c =
    let f = subst (λ (ns : List Node). Follows (places_of ns) (components c.args.path.now) c.follow-at.result.0 (components c.follow-at.result.1.now)) c.deref.ensures.value c.follow-at.ensures in
    record {
      ok = c.entry_in.ensures
          ∙ ap (λ (ns : List Node). option_map (entry_named c.follow-at.result.1.now) (name_at (slice_get (places_of ns) c.follow-at.result.0) c.follow-at.result.1.now)) c.deref-in-None.ensures.value
          ∙ seen_here (places_of c.args.self.now.nodes.items) c.args.self.now.links (components c.args.path.now) c.follow-at.result.0 c.follow-at.result.1.now
          (subst (λ (r : Path). Goes (places_of c.args.self.now.nodes.items) (components c.args.path.now) c.follow-at.result.0 r) c.in-None.ensures.parts f.goes)
          ∙ seen_named (view_at (places_of c.args.self.now.nodes.items) 0) c.args.path.now (λ none. true≢false (sym (c.is_empty.ensures ∙ ap (λ (l : List ℕ). length l == 0) none) ∙ c.if-is_empty.false));
    }
