use Rattle.gx_object.specs.Laws.LineLemmas.{folds_more}
use Rattle.gx_object.proofs.commit.lines.skip_folds.Goals as goal

pub loop-more-preserved : goal.loop-more-preserved
loop-more-preserved c = folds_more c.args.bytes.now c.loop-more.rest.now c.in-Some.more.now c.loop-more.invariant c.in-Some.ensures
