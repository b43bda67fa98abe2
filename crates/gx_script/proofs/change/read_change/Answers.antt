use Rattle.std.proofs.Common.{arith}
use Rattle.gx_script.proofs.ChangeLemmas.{edit_says, no_change}
use Rattle.gx_script.proofs.change.read_change.Goals as goal

pub returns-in-Some : goal.returns-in-Some
returns-in-Some c = edit_says c.args.hash c.args.count c.args.room c.in-Some.change c.args.line.now (omega arith) (rw c.in-Some.is at c.in_ok-change.ensures)

pub returns-in-None : goal.returns-in-None
returns-in-None c = no_change c.args.hash c.args.count c.args.room c.args.line.now c.if-is_end.ensures (rw c.in-None.is at c.in_ok-change.ensures)
