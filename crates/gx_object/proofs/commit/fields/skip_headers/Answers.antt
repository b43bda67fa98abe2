use Rattle.gx_object.proofs.MessageField.{skips_some}
use Rattle.gx_object.proofs.commit.fields.skip_headers.Goals as goal

pub returns : goal.returns
returns c = skips_some c.args.bytes.now _ c.in-Some.rest.now c.skip_further.result.now c.in-Some.ensures c.skip_further.ensures
