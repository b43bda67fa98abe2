use Rattle.std.proofs.Common.{length}
use Rattle.gx_object.specs.CommitItems.{SkipsFurther}
use Rattle.gx_object.proofs.commit.fields.skip_further.Given as goal

-- what was skipped is headers
abbrev pub invariant-loop-more : goal.invariant-loop-more
invariant-loop-more l = SkipsFurther l.bytes l.rest

abbrev pub decreases-loop-more : goal.decreases-loop-more
decreases-loop-more l = length l.rest
