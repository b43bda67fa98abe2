use Rattle.gx_edit.specs.Entries.{IsComplete}
use Rattle.gx_edit.proofs.CheckLemmas.{all_but}
use Rattle.gx_edit.proofs.output.store.check_each_entry.Goals as goal

pub loop-entry-preserved : goal.loop-entry-preserved
loop-entry-preserved g c = all_but (IsComplete (g.S.Meanings.state c.args.store.now)) c.args.entries.now c.loop-entry.entry-index c.entry-item.result c.loop-entry-test.true c.entry-item.is c.in_ok-check_entry.ensures.ok c.loop-entry.invariant
