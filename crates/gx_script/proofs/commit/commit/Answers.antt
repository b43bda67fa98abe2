use Rattle.std.proofs.Common.{refl, arith}
use Rattle.std.proofs.lemmas.Result.{err_from_is_err_and}
use Rattle.gx_script.proofs.BodyLemmas.{step_then, step_fails}
use Rattle.gx_script.proofs.CommitLemmas.{author_fails, committer_fails, step_author, step_people, step_parents, commit_done}
use Rattle.gx_script.proofs.commit.commit.Goals as goal

pub returns-in_err-author-clause-commit : goal.returns-in_err-author-clause-commit
returns-in_err-author-clause-commit g c =
    let p = err_from_is_err_and c.from_residual.result c.from_residual.ensures.1 in
    rw (p.1, p.2) (author_fails _ _ _ _ _ _ c.in_err-author.ensures.line)

pub returns-in_err-committer-clause-commit : goal.returns-in_err-committer-clause-commit
returns-in_err-committer-clause-commit g c =
    let p = err_from_is_err_and c.from_residual-in_err-committer.result c.from_residual-in_err-committer.ensures.1 in
    rw (p.1, p.2) (step_fails _ _ _ _ _ _ _ _ _ _ _ _ (step_author _ _ _ _ _ c.in_ok-author.ensures.line) c.in_ok-author.ensures.later (committer_fails _ _ _ _ _ _ c.in_err-committer.ensures.line))

pub returns-in_err-parents-clause-commit : goal.returns-in_err-parents-clause-commit
returns-in_err-parents-clause-commit g c =
    let p = err_from_is_err_and c.from_residual-in_err-parents.result c.from_residual-in_err-parents.ensures.1 in
    rw (p.1, p.2) (step_fails _ _ _ _ _ _ _ _ _ _ _ _ (step_people _ _ _ _ _ _ _ _ c.in_ok-author.ensures.line c.in_ok-committer.ensures.line) (omega (arith, c.in_ok-author.ensures.later, c.in_ok-committer.ensures.later)) c.in_err-parents.ensures.parents)

pub content-requires : goal.content-requires
content-requires g c = c.in_ok-parents.ensures.parents.0.2

pub returns-in_err-message-clause-commit : goal.returns-in_err-message-clause-commit
returns-in_err-message-clause-commit g c =
    let p = err_from_is_err_and c.from_residual-in_err-message.result c.from_residual-in_err-message.ensures.1 in
    rw (p.1, p.2) (step_fails _ _ _ _ _ _ _ _ _ _ _ _
    (step_then _ _ _ _ _ _ _ _ _ _ _ (step_people _ _ _ _ _ _ _ _ c.in_ok-author.ensures.line c.in_ok-committer.ensures.line) (step_parents _ _ _ _ _ _ c.in_ok-parents.ensures.parents))
    (omega (arith, c.in_ok-author.ensures.later, c.in_ok-committer.ensures.later, c.in_ok-parents.ensures.later)) c.in_err-message.ensures.content)

pub returns-clause-commit : goal.returns-clause-commit
returns-clause-commit g c = commit_done _ _ _ _ _ _ _ _ _ _ _ _ _ refl c.in_ok-author.ensures.line c.in_ok-committer.ensures.line c.in_ok-parents.ensures.parents c.in_ok-message.ensures.content
