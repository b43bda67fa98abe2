use Rattle.gx_tool.proofs.OutcomeLemmas.{accepted, not_accepted, not_answered}
use Rattle.gx_tool.proofs.generating.commit_next.Goals as goal

pub returns-in-Ok-clause-ok : goal.returns-in-Ok-clause-ok
returns-in-Ok-clause-ok g c =
    accepted c.call_laws.ensures c.args.asked.now _ _ c.in-Ok.made
    (rw c.as_slice.ensures at (rw c.as_slice-2.ensures at (rw c.as_slice-3.ensures at c.in-Ok.ensures.means)))
    (rw c.as_slice.ensures at (rw c.as_slice-2.ensures at c.in-Ok.ensures.tree))

pub returns-in-Err-clause-ok : goal.returns-in-Err-clause-ok
returns-in-Err-clause-ok g c =
    rw c.outcome_told.ensures (rw c.commit_tells.ensures
    (not_accepted c.call_laws.ensures c.args.asked.now _ _ c.in-Err.refusal (rw c.as_slice.ensures at (rw c.as_slice-2.ensures at (rw c.as_slice-3.ensures at c.in-Err.ensures.means)))))

pub returns-in-Err-clause-err : goal.returns-in-Err-clause-err
returns-in-Err-clause-err g c =
    rw c.outcome_told.ensures (rw c.commit_tells.ensures
    (not_answered c.args.asked.now _ _ c.in-Err.refusal (rw c.as_slice.ensures at (rw c.as_slice-2.ensures at (rw c.as_slice-3.ensures at c.in-Err.ensures.means)))))
