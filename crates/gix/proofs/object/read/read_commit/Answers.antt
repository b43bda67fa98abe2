use Rattle.gix.proofs.object.read.read_commit.Goals as goal

pub returns-in-Err-Decode-clause-only : goal.returns-in-Err-Decode-clause-only
returns-in-Err-Decode-clause-only c commit spells =
    let wrong = rw c.in-Err-Decode.field-0-is at c.in-Err-Decode.ensures.causes in
    absurd (wrong.none commit spells)
