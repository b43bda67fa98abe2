use Rattle.gx_refs.proofs.AnswerLemmas.{answers_more}
use Rattle.gx_refs.proofs.answer.answers.Goals as goal

pub loop-plan-preserved : goal.loop-plan-preserved
loop-plan-preserved c =
    rw c.in_ok-append.ensures.items (answers_more c.args.plans.now c.loop-plan.plan-index c.plan-item.result c.loop-plan.edits.items c.in_ok-answers_of.field-0.items c.loop-plan-test.true c.plan-item.is c.loop-plan.invariant c.in_ok-answers_of.ensures)
