use Rattle.gx_object.specs.Laws.CommitPlace.{stuck_parents}
use Rattle.gx_object.proofs.commit.iter.parent_or_author.Goals as goal

pub returns-in_err-signature-clause-item : goal.returns-in_err-signature-clause-item
returns-in_err-signature-clause-item c = rw c.from_residual.ensures (stuck_parents c.args.hash c.args.bytes.now c.in_default.ensures c.in_err-signature.ensures)
