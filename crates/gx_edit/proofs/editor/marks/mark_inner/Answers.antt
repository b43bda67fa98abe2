use Rattle.std.proofs.Common.{ℕ, ◌∷◌, subst}
use Rattle.std.specs.Global.{Vec}
use Rattle.gx_edit.proofs.EditorMarks.{MarkedSoFar, next_within, one_marked, all_marked}
use Rattle.gx_edit.proofs.editor.marks.mark_inner.Goals as goal

pub bounds-marks-place : goal.bounds-marks-place
bounds-marks-place c =
    let es = c.args.inner.now.entries in
    let e : Vec ℕ × ℕ = (c.in-Some.field-0-0.now, c.in-Some.place.now) in
    let so_far : MarkedSoFar es c.args.marks.now c.loop-place.marks (e ∷ c.next.new.self) = subst (MarkedSoFar es c.args.marks.now c.loop-place.marks) c.in-Some.ensures.steps c.loop-place.invariant in
    next_within es c.iter-place-items.ensures.found c.args.marks.now c.loop-place.marks e c.next.new.self c.requires so_far

pub loop-place-preserved : goal.loop-place-preserved
loop-place-preserved c =
    let es = c.args.inner.now.entries in
    let e : Vec ℕ × ℕ = (c.in-Some.field-0-0.now, c.in-Some.place.now) in
    let so_far : MarkedSoFar es c.args.marks.now c.loop-place.marks (e ∷ c.next.new.self) = subst (MarkedSoFar es c.args.marks.now c.loop-place.marks) c.in-Some.ensures.steps c.loop-place.invariant in
    one_marked es c.iter-place-items.ensures.found c.args.marks.now c.loop-place.marks e c.next.new.self c.requires so_far

pub returns : goal.returns
returns c =
    let es = c.args.inner.now.entries in
    all_marked es c.args.marks.now c.loop-place.marks (subst (MarkedSoFar es c.args.marks.now c.loop-place.marks) c.in-None.ensures.steps.0 c.loop-place.invariant)
