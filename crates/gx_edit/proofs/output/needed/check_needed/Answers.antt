use Rattle.gx_edit.specs.Checking.{IsCompleteOutside}
use Rattle.gx_edit.proofs.CheckLemmas.{all_but}
use Rattle.gx_edit.proofs.output.needed.check_needed.Goals as goal

pub loop-entry-preserved : goal.loop-entry-preserved
loop-entry-preserved g c =
    all_but (IsCompleteOutside (g.S.Meanings.state c.args.store.now) c.args.given.now c.args.trees.now) c.args.entries.now c.loop-entry.entry-index c.entry-item.result c.loop-entry-test.true c.entry-item.is c.in_ok-check_outside.ensures.ok c.loop-entry.invariant
