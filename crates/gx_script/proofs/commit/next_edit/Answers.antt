use Rattle.std.proofs.lemmas.Result.{err_from_is_err_and}
use Rattle.gx_script.proofs.CommitLemmas.{next_fails, next_cut, next_put, next_whole, next_end}
use Rattle.gx_script.proofs.commit.next_edit.Goals as goal

pub returns-in_err-kind-clause-edit : goal.returns-in_err-kind-clause-edit
returns-in_err-kind-clause-edit g c =
    let p = err_from_is_err_and c.from_residual.result c.from_residual.ensures.1 in
    rw (p.1, p.2) (next_fails _ _ _ _ _ _ _ _ c.in_err-kind.ensures.line)

pub returns-in_err-bytes-in-Put-clause-edit : goal.returns-in_err-bytes-in-Put-clause-edit
returns-in_err-bytes-in-Put-clause-edit g c =
    let p = err_from_is_err_and c.from_residual-in_err-bytes-in-Put.result c.from_residual-in_err-bytes-in-Put.ensures.1 in
    rw (p.1, p.2) (next_cut _ _ c.in-Put.size c.in-Put.kind c.in-Put.path _ _ _ _ _ _ _ _ _ (rw c.in-Put.is at c.in_ok-kind.ensures.line) c.in_ok-kind.ensures.later c.in_err-bytes-in-Put.ensures.block)

pub returns-in_ok-bytes-in-Put-clause-edit : goal.returns-in_ok-bytes-in-Put-clause-edit
returns-in_ok-bytes-in-Put-clause-edit g c = rw c.edit.ensures (next_put _ _ c.in-Put.size c.in-Put.kind c.in-Put.path _ _ _ _ _ _ _ (rw c.in-Put.is at c.in_ok-kind.ensures.line) c.in_ok-bytes-in-Put.ensures.block)

pub returns-in-Whole-clause-edit : goal.returns-in-Whole-clause-edit
returns-in-Whole-clause-edit g c = next_whole _ _ c.in-Whole.edit _ _ _ _ (rw c.in-Whole.is at c.in_ok-kind.ensures.line)

pub returns-in-End-clause-edit : goal.returns-in-End-clause-edit
returns-in-End-clause-edit g c = next_end _ _ _ _ _ _ (rw c.in-End.is at c.in_ok-kind.ensures.line)
