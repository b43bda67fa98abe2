use Rattle.std.proofs.Common.{◌≡◌, ◌∙◌, ◌-◌, sym, subst, suc, Some, true, false, length, arith}
use Rattle.std.specs.Prelude.{slice_get}
use Rattle.std.proofs.lemmas.List.{length-map}
use Rattle.gx_edit.specs.Nodes.{place_of, places_of}
use Rattle.gx_edit.specs.EditorPlan.{IsPlanned, TellsReached}
use Rattle.gx_edit.proofs.EditorMarks.{told_mark}
use Rattle.gx_edit.proofs.EditorRows.{reached_within}
use Rattle.gx_edit.proofs.EditorSteps.{none_planned, passes}
use Rattle.gx_edit.proofs.editor.plan.plan_below.Goals as goal

pub loop-at-init : goal.loop-at-init
loop-at-init c =
    let ns = c.args.nodes.now in
    let all = length-map ns place_of in
    let some = c.requires.some in
    let len = c.in_ok-from_elem.ensures.len in
    let own = c.in_ok-from_elem.field-0.ok.0 in
    record {
      low = omega (arith, all, some);
      so_far = none_planned c.args.hash (places_of ns) (length ns) _ (omega (arith, all)) (reached_within (places_of ns) c.requires) c.new.ensures.items c.new-2.ensures.items (omega (arith, all, len, own));
    }

pub plan_directory-requires-clause-reached : goal.plan_directory-requires-clause-reached
plan_directory-requires-clause-reached c =
    let ns = c.args.nodes.now in
    let told : TellsReached (places_of ns) c.in_ok-marks.marks.items = c.in_ok-marks.ensures in
    let all = length-map ns place_of in
    let len = told.len in
    let most = c.loop-at.auto.at in
    let low = c.loop-at.invariant.low in
    told.sound (c.loop-at.at - 1) (told_mark c.in_ok-marks.marks.items (c.loop-at.at - 1) c.index.result.now true (omega (arith, all, len, most, low)) c.index.ensures c.if-index.true)

pub loop-at-preserved : goal.loop-at-preserved
loop-at-preserved c =
    let ns = c.args.nodes.now in
    let told : TellsReached (places_of ns) c.in_ok-marks.marks.items = c.in_ok-marks.ensures in
    let all = length-map ns place_of in
    let len = told.len in
    let most = c.loop-at.auto.at in
    let low = c.loop-at.invariant.low in
    let less = c.loop-at-test.true in
    let off : slice_get c.in_ok-marks.marks.items (c.loop-at.at - 1) ≡ Some false = told_mark c.in_ok-marks.marks.items (c.loop-at.at - 1) c.index.result.now false (omega (arith, all, len, most, low)) c.index.ensures c.if-index.false in
    let before : c.loop-at.at ≡ suc (c.loop-at.at - 1) = omega (arith, low) in
    record {
      low = omega (arith, less);
      so_far = passes c.args.hash (places_of ns) (c.loop-at.at - 1) c.loop-at.planned (subst (λ k. IsPlanned c.args.hash (places_of ns) k c.loop-at.planned) before c.loop-at.invariant.so_far)
          (λ r. let no : Some false ≡ Some true = sym off ∙ told.all (c.loop-at.at - 1) r in cc);
    }
