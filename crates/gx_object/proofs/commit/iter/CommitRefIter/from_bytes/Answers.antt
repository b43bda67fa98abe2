use Rattle.gx_object.proofs.CommitIteration.{begins}
use Rattle.gx_object.proofs.commit.iter.CommitRefIter.from_bytes.Goals as goal

pub invariant_of-result : goal.invariant_of-result
invariant_of-result c other = begins c.args.hash c.args.bytes.now
