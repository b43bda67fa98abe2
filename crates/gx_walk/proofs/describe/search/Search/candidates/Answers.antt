use Rattle.std.proofs.Common.{arith, refl, ◌<◌, length}
use Rattle.std.proofs.lemmas.Result.{err_from_is_err_and}
use Rattle.gx_walk.proofs.CandidateLemmas.{searching_start, searching_step, searching_error, searching_full, searching_end, searching_reached}
use Rattle.gx_walk.proofs.describe.search.Search.candidates.Goals as goal

pub loop-walk-init : goal.loop-walk-init
loop-walk-init g c =
    searching_start g.S.Meanings.state c.args.store.now c.args.self.now c.args.names.now c.args.most c.in_ok-walk.field-0 c.sorting-walk.result _ c.new-candidates.result.items
    c.in_ok-walk.ensures refl c.sorting-walk.ensures c.new-candidates.ensures.items

pub returns-in_default-clause-ok : goal.returns-in_default-clause-ok
returns-in_default-clause-ok g c =
    searching_end g.S.Meanings.state c.args.store.now c.args.self.now c.args.names.now c.args.most c.loop-walk.walk c.loop-walk.candidates.items c.loop-walk.invariant
    c.next.new.self c.in_default.ensures.steps

pub returns-in_default-clause-reached : goal.returns-in_default-clause-reached
returns-in_default-clause-reached g c =
    searching_reached g.S.Meanings.state c.args.store.now c.args.self.now c.args.names.now c.args.most c.loop-walk.walk c.loop-walk.candidates.items c.loop-walk.invariant

pub returns-in_err-item-clause-causes : goal.returns-in_err-item-clause-causes
returns-in_err-item-clause-causes g c =
    let p = err_from_is_err_and c.from_residual-in_err-item.result c.from_residual-in_err-item.ensures.1 in
    rw (p.1, p.2) (searching_error g.S.Meanings.state c.args.store.now c.args.self.now c.args.names.now c.args.most c.loop-walk.walk c.loop-walk.candidates.items c.loop-walk.invariant
    c.next.new.self _ (rw c.in_err-item.was at c.in-Some.ensures.steps))

pub loop-walk-preserved : goal.loop-walk-preserved
loop-walk-preserved g c =
    let lt : length c.loop-walk.candidates.items < c.args.most = omega arith in
    searching_step g.S.Meanings.state c.args.store.now c.args.self.now c.args.names.now c.args.most c.loop-walk.walk c.loop-walk.candidates.items c.loop-walk.invariant
    c.next.new.self _ _ (rw c.in_ok-item.was at c.in-Some.ensures.steps) c.in_ok-push_named.ensures lt

pub returns-clause-ok : goal.returns-clause-ok
returns-clause-ok g c =
    searching_full g.S.Meanings.state c.args.store.now c.args.self.now c.args.names.now c.args.most c.loop-walk.walk c.loop-walk.candidates.items c.loop-walk.invariant
    (λ (lt : length c.loop-walk.candidates.items < c.args.most). absurd (omega arith))

pub returns-clause-reached : goal.returns-clause-reached
returns-clause-reached g c =
    searching_reached g.S.Meanings.state c.args.store.now c.args.self.now c.args.names.now c.args.most c.loop-walk.walk c.loop-walk.candidates.items c.loop-walk.invariant
