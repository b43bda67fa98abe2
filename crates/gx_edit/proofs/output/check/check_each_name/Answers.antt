use Rattle.std.proofs.Common.{Some}
use Rattle.gx_edit.specs.Entries.{IsSafe}
use Rattle.gx_edit.proofs.CheckLemmas.{all_but}
use Rattle.gx_edit.proofs.output.check.check_each_name.Goals as goal

pub loop-entry-preserved : goal.loop-entry-preserved
loop-entry-preserved c = all_but (IsSafe (Some c.args.protect)) c.args.entries.now c.loop-entry.entry-index c.entry-item.result c.loop-entry-test.true c.entry-item.is c.in_ok-check_name.ensures.ok c.loop-entry.invariant
