use Rattle.std.proofs.Common.{length, List, ℕ}
use Rattle.gx_object.specs.CommitLines.{AddsParents}
use Rattle.gx_object.proofs.commit.fields.skip_parents.Given as goal

-- what was skipped is parents
abbrev pub invariant-loop-more : goal.invariant-loop-more
invariant-loop-more l = (parents : List (List ℕ)) × AddsParents l.hash l.bytes parents l.rest

abbrev pub decreases-loop-more : goal.decreases-loop-more
decreases-loop-more l = length l.rest
