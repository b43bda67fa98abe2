use Rattle.std.proofs.Common.{sym, subst}
use Rattle.gix.specs.CommitRequest.{asked}
use Rattle.gix.specs.Stages.{StageCauses}
use Rattle.gix.proofs.PlanLemmas.{id_of_kind, move_refused, planned, refused_as_one}
use Rattle.gix.proofs.plan.plan_commit.Goals as goal

pub prepare_move-requires : goal.prepare_move-requires
prepare_move-requires g c = id_of_kind _ (asked c.args.request.now) c.in_ok-objects.objects c.in_ok-objects.ensures.ok.are

pub of_reference-requires : goal.of_reference-requires
of_reference-requires g c =
    let s = g.S.Meanings.state c.args.store.now in
    refused_as_one c.one_edit_meets_none.ensures c.a_signer_signs.ensures c.args.settings.now (asked c.args.request.now) s c.in_ok-objects.objects c.in_ok-objects.ensures.ok c.in-Err.refusal c.in-Err.ensures.causes

pub returns-in-Ok-clause-ok : goal.returns-in-Ok-clause-ok
returns-in-Ok-clause-ok g c =
    let s = g.S.Meanings.state c.args.store.now in
    planned c.args.settings.now (asked c.args.request.now) s (record { objects = c.in_ok-objects.objects; prepared = c.in-Ok.prepared }) c.in_ok-objects.ensures.ok c.in-Ok.ensures.ok c.in-Ok.ensures.kinds

pub returns-in-Err-clause-err : goal.returns-in-Err-clause-err
returns-in-Err-clause-err g c =
    let s = g.S.Meanings.state c.args.store.now in
    subst (StageCauses c.args.settings.now (asked c.args.request.now) s) (sym c.of_reference.ensures)
    (move_refused c.one_edit_meets_none.ensures c.a_signer_signs.ensures c.args.settings.now (asked c.args.request.now) s c.in_ok-objects.objects c.in_ok-objects.ensures.ok c.in-Err.refusal c.in-Err.ensures.causes)
