use Rattle.std.proofs.Common.{inr, refl}
use Rattle.gx_tool.proofs.EndLemmas.{answers_of}
use Rattle.gx_tool.proofs.SummaryLemmas.{generated}
use Rattle.gx_tool.proofs.running.run_limited.Goals as goal

pub returns-in-Ok-Apply-clause-answers : goal.returns-in-Ok-Apply-clause-answers
returns-in-Ok-Apply-clause-answers g c = λ _. rw c.code-in-Ok-Apply.ensures (answers_of _ _ _ _ c.serve.ensures)

pub returns-in-Ok-Generate-clause-generates : goal.returns-in-Ok-Generate-clause-generates
returns-in-Ok-Generate-clause-generates g c = λ count is.
    (refl, generated count _ _ _ _ _ _ (rw c.in-Ok-Generate.field-0-is at c.in-Ok-Generate.ensures) c.generate.ensures c.code-in-Ok-Generate.ensures is)

pub returns-in-Err-clause-generates : goal.returns-in-Err-clause-generates
returns-in-Err-clause-generates g c = λ count is. absurd (c.in-Err.ensures (inr (count, is)))
