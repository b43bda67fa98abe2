use Rattle.std.proofs.Common.{◌≡◌, ◌∙◌, sym, ap, refl, subst, List, [], Option, Some, arith}
use Rattle.std.specs.Prelude.{slice_get}
use Rattle.std.proofs.lemmas.List.{length-map}
use Rattle.gx_hash.specs.declared.oid.ObjectId.{ObjectId}
use Rattle.gx_edit.specs.Nodes.{place_of, places_of}
use Rattle.gx_edit.specs.declared.editor.nodes.Node.{Node}
use Rattle.gx_edit.specs.declared.editor.plan.Planned.{Planned}
use Rattle.gx_edit.specs.EditorPlan.{AreRows}
use Rattle.gx_edit.proofs.EditorRows.{rows_written}
use Rattle.gx_edit.proofs.PlaceLemmas.{place_seen}
use Rattle.gx_edit.proofs.editor.plan.plan_to_root.Goals as goal

pub returns : goal.returns
returns c =
    let ns = c.args.nodes.now in
    let node : Node = c.index-nodes-0.result in
    let planned : Planned = c.in_ok-planned.planned in
    let rows = c.in_ok-rows.rows.items in
    let all = length-map ns place_of in
    let some = c.requires.some in
    let seen : slice_get (places_of ns) 0 ≡ Some (place_of node) = place_seen ns 0 node (omega (arith, all, some)) ∙ ap (λ (n : Node). Some (place_of n)) (sym c.index-nodes-0.is) in
    let r : AreRows node planned.done.items rows = subst (λ (l : List (Option ObjectId)). AreRows node l rows) c.deref.ensures.value c.in_ok-rows.ensures in
    record {
      below = c.in_ok-planned.ensures;
      written = rows_written c.args.hash (places_of ns) c.requires 0 planned c.in_ok-planned.ensures ([], refl) node seen rows r;
    }
