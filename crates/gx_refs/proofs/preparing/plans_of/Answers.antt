use Rattle.std.proofs.Common.{◌∙◌, ap, sym, ◌++◌, ◌∷◌, [], append_assoc}
use Rattle.gx_refs.specs.Plan.{IsPlan}
use Rattle.gx_refs.specs.Planned.{FindsKind}
use Rattle.gx_refs.proofs.ChangeLemmas.{all_joined}
use Rattle.gx_refs.proofs.PlanLemmas.{zip_more}
use Rattle.gx_refs.proofs.preparing.plans_of.Goals as goal

pub loop-edit-preserved : goal.loop-edit-preserved
loop-edit-preserved g c =
    let done = c.loop-edit.yielded in
    let edit = c.in-Some.edit in
    let plan = c.in_ok-plan_of.field-0 in (
      c.loop-edit.invariant.0 ∙ ap (λ xs. done ++ xs) c.in-Some.ensures.steps.0 ∙ sym (append_assoc done (edit ∷ []) c.next.new.self.rest.items),
      rw c.in_ok-push.ensures.items (zip_more (IsPlan c.args.space.now (g.S.Meanings.state c.args.store.now).references) done c.loop-edit.plans.items edit plan c.loop-edit.invariant.1 c.in_ok-plan_of.ensures.plan),
      rw c.in_ok-push.ensures.items (all_joined (FindsKind (g.S.Meanings.state c.args.store.now).hash) c.loop-edit.plans.items (plan ∷ []) c.loop-edit.invariant.2 (c.in_ok-plan_of.ensures.kind, tt)),
    )
