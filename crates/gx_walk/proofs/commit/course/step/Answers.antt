use Rattle.std.proofs.Common.{◌∙◌, refl, rules}
use Rattle.std.proofs.lemmas.Result.{err_from_is_err_and}
use Rattle.gx_walk.specs.Read.{node_of}
use Rattle.gx_walk.proofs.StepLemmas.{end_kept, end_whole, next_info, next_kept, read_named}
use Rattle.gx_walk.proofs.commit.course.step.Goals as goal

pub returns-in_default-clause-end : goal.returns-in_default-clause-end
returns-in_default-clause-end g c =
    end_whole (g.S.Meanings.state c.args.store.now) c.args.options.now c.args.course.now c.mention_all.new.frontier c.as_slice.result.now (search rules) c.in_ok-mention_all.ensures.kept
    c.take_first.new.self c.in_default.ensures.none c.mention_all.ensures.asks.more (c.take_first.ensures.asked ∙ c.mention_all.ensures.asks.asked)

pub returns-in_default-clause-kept : goal.returns-in_default-clause-kept
returns-in_default-clause-kept g c =
    end_kept (g.S.Meanings.state c.args.store.now) c.args.options.now c.args.course.now c.mention_all.new.frontier c.as_slice.result.now (search rules) c.in_ok-mention_all.ensures.kept
    c.take_first.new.self c.in_default.ensures.none c.mention_all.ensures.asks.more (c.take_first.ensures.asked ∙ c.mention_all.ensures.asks.asked) _ refl refl refl (search rules)

pub returns-in_err-commit-clause-causes : goal.returns-in_err-commit-clause-causes
returns-in_err-commit-clause-causes g c =
    let p = err_from_is_err_and c.from_residual-in_err-commit.result c.from_residual-in_err-commit.ensures.1 in
    rw (p.1, p.2) (read_named (g.S.Meanings.state c.args.store.now) c.args.options.now c.args.course.now c.mention_all.new.frontier c.as_slice.result.now (search rules) c.in_ok-mention_all.ensures.kept
    c.take_first.new.self c.in-Some.id c.in-Some.ensures.best _ c.in_err-commit.ensures.causes)

pub returns-clause-kept : goal.returns-clause-kept
returns-clause-kept g c =
    next_kept (g.S.Meanings.state c.args.store.now) c.args.options.now c.args.course.now c.mention_all.new.frontier c.as_slice.result.now (search rules) c.in_ok-mention_all.ensures.kept
    c.take_first.new.self c.in-Some.id c.in-Some.ensures.best (node_of c.in_ok-commit.commit) c.in_ok-commit.ensures.ok c.follow-parent_ids.result c.follow-parent_ids.ensures
    _ c.mention_all.ensures.asks.more refl (c.take_first.ensures.asked ∙ c.mention_all.ensures.asks.asked) refl (search rules) (search rules)

pub returns-clause-next : goal.returns-clause-next
returns-clause-next g c =
    next_info (g.S.Meanings.state c.args.store.now) c.args.options.now c.args.course.now c.mention_all.new.frontier c.as_slice.result.now (search rules) c.in_ok-mention_all.ensures.kept
    c.take_first.new.self c.in-Some.id c.in-Some.ensures.best (node_of c.in_ok-commit.commit) c.in_ok-commit.ensures.ok c.follow-parent_ids.result c.follow-parent_ids.ensures
    _ refl refl (search rules)
