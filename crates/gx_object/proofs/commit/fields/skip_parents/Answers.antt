use Rattle.gx_object.proofs.FieldLemmas.{skips_more}
use Rattle.gx_object.proofs.commit.fields.skip_parents.Goals as goal

pub loop-more-preserved : goal.loop-more-preserved
loop-more-preserved c = skips_more c.args.hash c.args.bytes.now c.loop-more.rest.now _ c.in-Some.more.now c.loop-more.invariant c.in-Some.ensures
