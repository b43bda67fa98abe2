use Rattle.std.proofs.Common.{◌≡◌, ◌∙◌, sym, ap, refl, subst, suc, List, Option, Some, arith, add-one, set}
use Rattle.std.specs.Prelude.{slice_get}
use Rattle.std.proofs.lemmas.List.{length-map}
use Rattle.gx_hash.specs.declared.oid.ObjectId.{ObjectId}
use Rattle.gx_edit.specs.Nodes.{place_of, places_of, view_at}
use Rattle.gx_edit.specs.declared.editor.nodes.Node.{Node}
use Rattle.gx_edit.specs.declared.editor.plan.Planned.{Planned}
use Rattle.gx_edit.specs.EditorPlan.{AreRows, IsPlanned}
use Rattle.gx_edit.specs.Written.{IsWritten}
use Rattle.gx_edit.proofs.EditorRows.{rows_written}
use Rattle.gx_edit.proofs.EditorSteps.{plans_next}
use Rattle.gx_edit.proofs.PlaceLemmas.{place_seen}
use Rattle.gx_edit.proofs.editor.plan.plan_directory.Goals as goal

pub returns : goal.returns
returns c =
    let ns = c.args.nodes.now in
    let at = c.args.at in
    let node : Node = c.index-nodes-at.result in
    let old : Planned = c.args.planned.now in
    let rows = c.in_ok-rows.rows.items in
    let all = length-map ns place_of in
    let low = c.requires.below_root in
    let less = c.requires.within in
    let seen : slice_get (places_of ns) at ≡ Some (place_of node) = place_seen ns at node c.requires.within ∙ ap (λ (n : Node). Some (place_of n)) (sym c.index-nodes-at.is) in
    let p : IsPlanned c.args.hash (places_of ns) (suc at) old = subst (λ k. IsPlanned c.args.hash (places_of ns) k old) (add-one at) c.requires.so_far in
    let r : AreRows node old.done.items rows = subst (λ (l : List (Option ObjectId)). AreRows node l rows) c.deref.ensures.value c.in_ok-rows.ensures in
    let w : IsWritten c.args.hash (view_at (places_of ns) at) rows = rows_written c.args.hash (places_of ns) c.requires.links at old p c.requires.reached node seen rows r in
    plans_next c.args.hash (places_of ns) at old c.plan_rows.new.planned _ p (omega (arith, all, less)) (λ e. omega (arith, e, low)) c.requires.reached rows w c.in_ok-id.ensures.1 refl refl
    (ap (λ (o : Option ObjectId). set c.plan_rows.new.planned.done.items at o) c.in_ok-id.ensures.0)
