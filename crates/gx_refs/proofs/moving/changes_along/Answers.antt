use Rattle.std.proofs.Common.{arith, subst, take, length, ◌-◌}
use Rattle.std.proofs.lemmas.Result.{err_from_is_err_and}
use Rattle.std.proofs.lemmas.List.{take_all}
use Rattle.gx_refs.proofs.MovingLemmas.{AreKept, one_kept, moves, moves_along, fault_at, fault_before, parted}
use Rattle.gx_refs.proofs.moving.changes_along.Goals as goal

pub returns-in_err-change-clause-fault : goal.returns-in_err-change-clause-fault
returns-in_err-change-clause-fault g c =
    let p = err_from_is_err_and c.from_residual.result c.from_residual.ensures.1 in
    let parts = parted c.args.names.now c.end-item.result c.in-len1-up.len_at_least c.end-item.is in
    rw (p.1, p.2) (fault_before (g.S.Meanings.state c.args.store.now) c.args.mode c.args.names.now c.loop-name.name-index c.name-item.result c.end-item.result c.in_err-change.field-0.0 parts c.loop-name-test.true c.name-item.is c.in_err-change.ensures.fault)

pub loop-name-preserved : goal.loop-name-preserved
loop-name-preserved g c =
    rw c.in_ok-push.ensures.items (one_kept c.args.mode c.args.line.now _ _ c.loop-name.name-index c.name-item.result c.loop-name.changes.items c.in_ok-change.change c.loop-name-test.true c.name-item.is c.loop-name.invariant c.in_ok-change.ensures.change c.in_ok-change.ensures.told)

pub returns-in_err-last-clause-fault : goal.returns-in_err-last-clause-fault
returns-in_err-last-clause-fault g c =
    let p = err_from_is_err_and c.from_residual-in_err-last.result c.from_residual-in_err-last.ensures.1 in
    let parts = parted c.args.names.now c.end-item.result c.in-len1-up.len_at_least c.end-item.is in
    rw (p.1, p.2) (fault_at (g.S.Meanings.state c.args.store.now) c.args.mode c.end-item.result _ _ c.args.names.now c.in_err-last.field-0.0 parts c.in_err-last.ensures.fault)

pub returns-clause-moved : goal.returns-clause-moved
returns-clause-moved g c = λ before end is.
    let way = take (length c.args.names.now - 1) c.args.names.now in
    let kept = subst (λ xs. AreKept c.args.mode c.args.line.now (g.S.Meanings.state c.args.store.now).references xs c.loop-name.changes.items) (take_all c.loop-name.name-index way (omega arith)) c.loop-name.invariant in
    let parts = parted c.args.names.now c.end-item.result c.in-len1-up.len_at_least c.end-item.is in
    rw c.in_ok-push-2.ensures.items (moves c.args.mode c.args.id c.args.line.now _ way c.end-item.result c.loop-name.changes.items c.in_ok-last.last kept c.in_ok-last.ensures.told c.args.names.now before end parts is)

pub returns-clause-along : goal.returns-clause-along
returns-clause-along g c =
    let way = take (length c.args.names.now - 1) c.args.names.now in
    let kept = subst (λ xs. AreKept c.args.mode c.args.line.now (g.S.Meanings.state c.args.store.now).references xs c.loop-name.changes.items) (take_all c.loop-name.name-index way (omega arith)) c.loop-name.invariant in
    let parts = parted c.args.names.now c.end-item.result c.in-len1-up.len_at_least c.end-item.is in
    rw (c.in_ok-push-2.ensures.items, parts) (moves_along c.args.mode c.args.id c.args.line.now way c.end-item.result c.loop-name.changes.items c.in_ok-last.last kept.each c.in_ok-last.ensures.change)
