use Rattle.std.proofs.Common.{length}
use Rattle.gx_object.specs.CommitLines.{Folds}
use Rattle.gx_object.proofs.commit.lines.skip_folds.Given as goal

-- what was skipped goes on with a header
abbrev pub invariant-loop-more : goal.invariant-loop-more
invariant-loop-more l = Folds l.bytes l.rest

abbrev pub decreases-loop-more : goal.decreases-loop-more
decreases-loop-more l = length l.rest
