use Rattle.gx_object.specs.Laws.CommitPlace.{stuck_committer}
use Rattle.gx_object.proofs.commit.iter.committer_item.Goals as goal

pub returns-in_err-signature-clause-item : goal.returns-in_err-signature-clause-item
returns-in_err-signature-clause-item c = λ hash. rw c.from_residual.ensures (stuck_committer hash c.args.bytes.now c.in_err-signature.ensures)
