use Rattle.std.proofs.Common.{arith}
use Rattle.gx_edit.proofs.AboveLemmas.{above_step, above_all}
use Rattle.gx_edit.specs.PathTexts.{rows_of}
use Rattle.gx_edit.proofs.path_map.texts.remove_above.Goals as goal

pub loop-at-preserved : goal.loop-at-preserved
loop-at-preserved c = above_step c.args.path.now c.loop-at.at (rows_of c.args.map.now) (rows_of c.loop-at.map) (rows_of c.remove_front.new.map) c.loop-at-test.true c.remove_front.ensures c.loop-at.invariant

pub returns : goal.returns
returns c = above_all c.args.path.now c.loop-at.at (rows_of c.args.map.now) (rows_of c.loop-at.map) (omega (arith, c.loop-at-test.false)) c.loop-at.invariant
