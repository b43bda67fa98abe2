use Rattle.gx_object.proofs.CommitSignatures.{tells_only}
use Rattle.gx_object.proofs.commit.signed_data.signature_of.Goals as goal

pub returns-clause-only : goal.returns-clause-only
returns-clause-only c = tells_only c.args.hash c.args.bytes.now c.read_signature.result c.read_signature.ensures.ok c.read_signature.ensures.causes
