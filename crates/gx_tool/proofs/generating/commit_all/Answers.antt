use Rattle.std.proofs.Common.{arith}
use Rattle.gx_tool.proofs.GeneratingLemmas.{has_broken, is_refused, so_far_first, so_far_more}
use Rattle.gx_tool.proofs.generating.commit_all.Goals as goal

pub commits-init : goal.commits-init
commits-init g c = so_far_first _ _

pub returns-in-Ok-Refused-clause-ok : goal.returns-in-Ok-Refused-clause-ok
returns-in-Ok-Refused-clause-ok g c =
    let asked = rw c.number_after-number.ensures at (rw c.last_id.ensures at c.in-Ok.ensures) in
    let outcome = rw c.in-Ok-Refused.field-0-is at c.in-Ok-Refused.ensures.ok in
    is_refused _ _ _ _ _ _ _ _ c.commits.invariant (omega (arith, c.commits-test.true)) (omega arith) asked outcome

pub returns-in-Err-commit_next-clause-err : goal.returns-in-Err-commit_next-clause-err
returns-in-Err-commit_next-clause-err g c =
    let asked = rw c.number_after-number.ensures at (rw c.last_id.ensures at c.in-Ok.ensures) in
    has_broken _ _ _ _ _ _ _ _ _ c.commits.invariant (omega (arith, c.commits-test.true)) (omega arith) asked c.in-Err-commit_next.ensures.err

pub commits-preserved : goal.commits-preserved
commits-preserved g c =
    let asked = rw c.number_after-number.ensures at (rw c.last_id.ensures at c.in-Ok.ensures) in
    let outcome = rw c.in-Ok-Accepted.field-0-is at c.in-Ok-Accepted.ensures.ok in
    rw c.number_after-number.ensures (so_far_more _ _ _ _ _ _ _ _ _ c.commits.invariant (omega (arith, c.commits-test.true)) (omega arith) asked outcome)
