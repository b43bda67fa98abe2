use Rattle.std.proofs.Common.{take}
use Rattle.std.proofs.lemmas.Result.{err_from_is_err_and}
use Rattle.gx_store.proofs.Growth.{one_more, fault_before}
use Rattle.gx_store.proofs.writing.write_objects.Goals as goal

pub returns-in_err-write_object-clause-fault : goal.returns-in_err-write_object-clause-fault
returns-in_err-write_object-clause-fault g c =
    let state = g.S.Meanings.state in
    let p = err_from_is_err_and c.from_residual.result c.from_residual.ensures.1 in
    rw (p.1, p.2) (fault_before (take c.loop-object.object-index c.args.objects.now) (state c.args.store.now) (state c.loop-object.store) (state c.write_object.new.store) c.in_err-write_object.field-0.0 c.loop-object.invariant c.in_err-write_object.ensures.fault)

pub loop-object-preserved : goal.loop-object-preserved
loop-object-preserved g c =
    one_more c.args.objects.now c.loop-object.object-index c.object-item.result _ _ _ c.loop-object-test.true c.object-item.is c.loop-object.invariant
    (rw c.as_slice.ensures at c.in_ok-write_object.ensures.ok)
