use Rattle.gx_object.proofs.MessageField.{further_more}
use Rattle.gx_object.proofs.commit.fields.skip_further.Goals as goal

pub loop-more-preserved : goal.loop-more-preserved
loop-more-preserved c = further_more c.args.bytes.now c.loop-more.rest.now _ c.in-Some.more.now c.loop-more.invariant c.in-Some.ensures
