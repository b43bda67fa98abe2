use Rattle.std.proofs.Common.{◌≡◌, ◌∙◌, ◌<◌, ◌+◌, sym, ap, subst, List, Some, true, false, length, arith, add-one, Bool}
use Rattle.std.specs.Prelude.{slice_get}
use Rattle.std.proofs.lemmas.List.{length-map}
use Rattle.gx_edit.specs.Nodes.{map_in, place_of, places_of}
use Rattle.gx_edit.specs.declared.editor.nodes.Node.{Node}
use Rattle.gx_edit.specs.EditorPlan.{AreWithin, Marks}
use Rattle.gx_edit.proofs.EditorMarks.{inner_within, items_same, told_mark, marks_more, marks_none, tells_reached}
use Rattle.gx_edit.proofs.EditorPlanned.{AreMarked}
use Rattle.gx_edit.proofs.PlaceLemmas.{place_seen}
use Rattle.gx_edit.proofs.editor.marks.reached.Goals as goal
use Rattle.gx_edit.proofs.editor.marks.reached.Goals.{then-index, else-index}

pub mark_inner-requires : goal.mark_inner-requires
mark_inner-requires c =
    let ns = c.args.nodes.now in
    let node : Node = c.index-nodes-at.result in
    let seen : slice_get (places_of ns) c.loop-at.at ≡ Some (place_of node) = place_seen ns c.loop-at.at node c.loop-at-test.true ∙ ap (λ (n : Node). Some (place_of n)) (sym c.index-nodes-at.is) in
    subst (λ (l : List Bool). AreWithin (map_in node.inner) (length l)) (sym c.deref_mut.ensures.value)
    (inner_within (places_of ns) c.requires c.loop-at.at (place_of node) c.loop-at.marks.items seen c.loop-at.invariant.len)

pub loop-at-preserved : goal.loop-at-preserved
loop-at-preserved c =
    let ns = c.args.nodes.now in
    let at = c.loop-at.at in
    let node : Node = c.index-nodes-at.result in
    let old : List Bool = c.loop-at.marks.items in
    let seen : slice_get (places_of ns) at ≡ Some (place_of node) = place_seen ns at node c.loop-at-test.true ∙ ap (λ (n : Node). Some (place_of n)) (sym c.index-nodes-at.is) in
    let m : AreMarked (places_of ns) at old = c.loop-at.invariant in
    let within : at < length old = (let len = m.len in let all = length-map ns place_of in let less = c.loop-at-test.true in omega (arith, len, all, less)) in
    elim c.if-index.branch [
      | then-index w ↦
          let new : List Bool = w.mark_inner.new.marks in
          let marks : Marks (map_in node.inner) old new = subst (λ (l : List Bool). Marks (map_in node.inner) l new) w.deref_mut.ensures.value w.mark_inner.ensures in
          let is : c.if-index.marks.items ≡ new = ap (λ v. v.items) w.marks-is ∙ items_same c.loop-at.marks new marks.len in
          subst (λ (l : List Bool). AreMarked (places_of ns) (at + 1) l) (sym is)
          (subst (λ k. AreMarked (places_of ns) k new) (sym (add-one at)) (marks_more (places_of ns) c.requires at (place_of node) seen old m new (told_mark old at c.index.result.now true within c.index.ensures w.if-index.true) marks))
      | else-index w ↦
          subst (λ (l : List Bool). AreMarked (places_of ns) (at + 1) l) (sym (ap (λ v. v.items) w.marks-is))
          (subst (λ k. AreMarked (places_of ns) k old) (sym (add-one at)) (marks_none (places_of ns) c.requires at (place_of node) seen old m (told_mark old at c.index.result.now false within c.index.ensures w.if-index.false)))
    ]

pub returns : goal.returns
returns c =
    let ns = c.args.nodes.now in
    let all = length-map ns place_of in
    tells_reached (places_of ns) c.requires c.loop-at.marks.items (subst (λ k. AreMarked (places_of ns) k c.loop-at.marks.items) (omega (arith, all)) c.loop-at.invariant)
