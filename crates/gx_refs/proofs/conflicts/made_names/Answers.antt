use Rattle.std.proofs.Common.{rules, sym, ◌∙◌}
use Rattle.gx_refs.proofs.RoomLemmas.{made_kept, made_next}
use Rattle.gx_refs.proofs.conflicts.made_names.Goals as goal
use Rattle.gx_refs.proofs.conflicts.made_names.Goals.{then-makes+in_ok-name+in_ok-try_clone+in_ok-insert+in-Some-1, then-makes+in_ok-name+in_ok-try_clone+in_ok-insert+in-None-1, else-makes}

pub loop-plan-preserved : goal.loop-plan-preserved
loop-plan-preserved c =
    let plan = c.plan-item.result in
    elim c.if-makes.branch [
      | then-makes+in_ok-name+in_ok-try_clone+in_ok-insert+in-Some-1 w ↦ rw w.made-is
          (made_next c.loop-plan.made w.insert.new.self c.args.plans.now c.loop-plan.plan-index plan w.in_ok-name.name w.in_ok-try_clone.field-0 c.loop-plan-test.true c.plan-item.is (search rules) (search rules) (sym c.makes.ensures ∙ w.if-makes.true) w.in_ok-insert.ensures.updates.0 c.loop-plan.invariant)
      | then-makes+in_ok-name+in_ok-try_clone+in_ok-insert+in-None-1 w ↦ rw w.made-is
          (made_next c.loop-plan.made w.insert.new.self c.args.plans.now c.loop-plan.plan-index plan w.in_ok-name.name w.in_ok-try_clone.field-0 c.loop-plan-test.true c.plan-item.is (search rules) (search rules) (sym c.makes.ensures ∙ w.if-makes.true) w.in_ok-insert.ensures.updates.0 c.loop-plan.invariant)
      | else-makes w ↦ rw w.made-is
          (made_kept c.loop-plan.made c.args.plans.now c.loop-plan.plan-index plan c.loop-plan-test.true c.plan-item.is (sym c.makes.ensures ∙ w.if-makes.false) c.loop-plan.invariant)
    ]
