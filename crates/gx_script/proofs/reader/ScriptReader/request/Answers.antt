use Rattle.std.proofs.lemmas.Result.{err_from_is_err_and}
use Rattle.gx_script.proofs.RestLemmas.{first_fails, rest_fails, rest_given}
use Rattle.gx_script.proofs.reader.ScriptReader.request.Goals as goal

pub returns-in_err-opening-clause-next : goal.returns-in_err-opening-clause-next
returns-in_err-opening-clause-next g c =
    let p = err_from_is_err_and c.from_residual.result c.from_residual.ensures.1 in
    rw (p.1, p.2, ← c.self.view_is) (first_fails _ _ _ _ _ _ c.in_err-opening.ensures.line)

pub returns-in_err-request-clause-next : goal.returns-in_err-request-clause-next
returns-in_err-request-clause-next g c =
    let p = err_from_is_err_and c.from_residual-in_err-request.result c.from_residual-in_err-request.ensures.1 in
    rw (p.1, p.2, ← c.self.view_is) (rest_fails c.in-Some.opening _ _ _ _ _ _ _ _ _ (rw c.in-Some.is at c.in_ok-opening.ensures.line) c.in_ok-opening.ensures.later c.in_err-request.ensures.rest)

pub returns-clause-next : goal.returns-clause-next
returns-clause-next g c = rw (← c.self.view_is) (rest_given c.in-Some.opening _ _ _ _ _ _ _ (rw c.in-Some.is at c.in_ok-opening.ensures.line) c.in_ok-request.ensures.rest)
