use Rattle.std.proofs.Common.{arith}
use Rattle.gx_script.proofs.NumberLemmas.{no_empty, no_front_zero, only_zero}
use Rattle.gx_script.proofs.number.number.Goals as goal

pub returns-then-is_empty : goal.returns-then-is_empty
returns-then-is_empty c = no_empty c.args.bytes.now (grind (arith, c.is_empty.ensures, c.if-is_empty.true))

pub returns-then-bytes-eq1 : goal.returns-then-bytes-eq1
returns-then-bytes-eq1 c = only_zero c.args.bytes.now (omega arith) (omega arith)

pub returns-else-bytes-eq1 : goal.returns-else-bytes-eq1
returns-else-bytes-eq1 c = no_front_zero c.args.bytes.now (omega arith) (omega arith)
