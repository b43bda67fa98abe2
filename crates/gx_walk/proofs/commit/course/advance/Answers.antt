use Rattle.std.proofs.Common.{ap}
use Rattle.std.proofs.lemmas.Result.{err_from_is_err_and}
use Rattle.gx_walk.specs.declared.commit.frontier.Frontier.{Frontier}
use Rattle.gx_walk.proofs.AskedLemmas.{asks_same}
use Rattle.gx_walk.proofs.NextLemmas.{named_at_start, named_under_way}
use Rattle.gx_walk.proofs.commit.course.advance.Goals as goal

pub returns-in_err-begin-clause-asks : goal.returns-in_err-begin-clause-asks
returns-in_err-begin-clause-asks g c = asks_same g.F.Filter.admit_gives _ _ _ c.requires.asked.once (ap (λ (w : Frontier). w.asked.items) c.begin.ensures.frontier)

pub returns-in_err-begin-clause-causes : goal.returns-in_err-begin-clause-causes
returns-in_err-begin-clause-causes g c =
    let p = err_from_is_err_and c.from_residual.result c.from_residual.ensures.1 in
    rw (p.1, p.2) (named_at_start (g.S.Meanings.state c.args.store.now) c.args.options.now c.args.course.now c.begin.new.course.frontier.asked.items _ c.in_err-begin.ensures.causes)

pub returns-clause-causes : goal.returns-clause-causes
returns-clause-causes g c =
    named_under_way (g.S.Meanings.state c.args.store.now) c.args.options.now c.args.course.now c.step.new.course.frontier.asked.items c.begin.new.course c.step.result
    c.in_ok-begin.ensures.begun c.begin.ensures.listed c.step.ensures.causes
