use Rattle.gix.specs.EditReferences.{terms_in}
use Rattle.gix.proofs.laws.edits_that_may_be_made_are_not_refused.Goals as goal

pub returns : goal.returns
returns c = λ committer edits settings old new e valid none refuses. c.edits_that_may_be_made_are_not_refused.ensures (terms_in settings committer) old.references edits e valid refuses.1
