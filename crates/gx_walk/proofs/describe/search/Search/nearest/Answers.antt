use Rattle.std.proofs.Common.{◌≤◌, length, [], ◌∷◌, rules, arith}
use Rattle.std.proofs.lemmas.Result.{err_from_is_err_and}
use Rattle.gx_walk.proofs.CandidateLemmas.{causes_on, other_of, first_of_all, compare_start, compare_next, compare_end}
use Rattle.gx_walk.proofs.describe.search.Search.nearest.Goals as goal

pub returns-in_err-nearest-clause-causes : goal.returns-in_err-nearest-clause-causes
returns-in_err-nearest-clause-causes g c =
    let p = err_from_is_err_and c.from_residual.result c.from_residual.ensures.1 in
    rw (p.1, p.2) (causes_on (g.S.Meanings.state c.args.store.now) c.args.self.now (c.in-Some.first.now ∷ []) c.args.candidates.now _
    (first_of_all c.args.candidates.now c.in-Some.others.now c.in-Some.first.now c.in-Some.ensures.cases.0) c.in_err-nearest.ensures.causes)

pub loop-other-init : goal.loop-other-init
loop-other-init g c =
    compare_start (g.S.Meanings.state c.args.store.now) c.args.self.now c.args.candidates.now c.in-Some.others.now c.in-Some.first.now c.in-Some.ensures.cases.0
    c.in_ok-nearest.nearest c.in_ok-nearest.ensures.id c.in_ok-nearest.ensures.ok

pub returns-in_err-nearest-2-clause-causes : goal.returns-in_err-nearest-2-clause-causes
returns-in_err-nearest-2-clause-causes g c =
    let p = err_from_is_err_and c.from_residual-in_err-nearest-2.result c.from_residual-in_err-nearest-2.ensures.1 in
    rw (p.1, p.2) (causes_on (g.S.Meanings.state c.args.store.now) c.args.self.now (_ ∷ []) c.args.candidates.now _
    (other_of c.args.candidates.now c.in-Some.others.now c.in-Some.first.now c.loop-other.other-index _ c.in-Some.ensures.cases.0 c.loop-other-test.true (search rules))
    c.in_err-nearest-2.ensures.causes)

pub loop-other-preserved : goal.loop-other-preserved
loop-other-preserved g c =
    compare_next (g.S.Meanings.state c.args.store.now) c.args.self.now c.args.candidates.now c.in-Some.others.now c.in-Some.first.now c.in-Some.ensures.cases.0
    c.loop-other.other-index _ c.loop-other.nearest c.in_ok-nearest-2.nearest c.loop-other-test.true (search rules) c.loop-other.invariant c.in_ok-nearest-2.ensures.ok

pub returns-clause-ok : goal.returns-clause-ok
returns-clause-ok g c =
    let all : length c.in-Some.others.now ≤ c.loop-other.other-index = omega arith in
    compare_end (g.S.Meanings.state c.args.store.now) c.args.self.now c.args.candidates.now c.in-Some.others.now c.in-Some.first.now c.in-Some.ensures.cases.0
    c.loop-other.other-index c.loop-other.nearest all c.loop-other.invariant
