use Rattle.std.proofs.lemmas.Result.{err_from_is_err_and}
use Rattle.gx_walk.proofs.NearestLemmas.{measuring_start, measuring_step, measuring_error, measuring_end}
use Rattle.gx_walk.proofs.describe.search.Search.measure.Goals as goal

pub loop-item-init : goal.loop-item-init
loop-item-init g c =
    measuring_start g.S.Meanings.state c.args.store.now c.args.self.now c.args.candidate c.in_ok-walk.field-0 c.hide-walk.result c.in_ok-only.field-0 c.new-beyond.result
    c.in_ok-walk.ensures c.in_ok-only.ensures c.hide-walk.ensures c.new-beyond.ensures

pub returns-in_err-item-clause-causes : goal.returns-in_err-item-clause-causes
returns-in_err-item-clause-causes g c =
    let p = err_from_is_err_and c.from_residual-in_err-item.result c.from_residual-in_err-item.ensures.1 in
    rw (p.1, p.2) (measuring_error g.S.Meanings.state c.args.store.now c.args.self.now c.args.candidate c.loop-item.walk c.next.new.self c.loop-item.beyond c.loop-item.invariant
    _ (rw c.in_err-item.was at c.in-Some.ensures.steps))

pub loop-item-preserved : goal.loop-item-preserved
loop-item-preserved g c =
    measuring_step g.S.Meanings.state c.args.store.now c.args.self.now c.args.candidate c.loop-item.walk c.next.new.self c.loop-item.beyond c.loop-item.invariant
    _ c.insert.new.self (rw c.in_ok-item.was at c.in-Some.ensures.steps) c.in_ok-insert.ensures.ok

pub returns-clause-ok : goal.returns-clause-ok
returns-clause-ok g c =
    measuring_end g.S.Meanings.state c.args.store.now c.args.self.now c.args.candidate c.loop-item.walk c.next.new.self c.loop-item.beyond c.loop-item.invariant
    c.listed.result.now c.listed.ensures c.in_default.ensures.steps
