use Rattle.std.proofs.Common.{arith}
use Rattle.gx_rules.proofs.IgnorableLemmas.{ignorable_by_points}
use Rattle.gx_rules.proofs.laws.ignorable_bytes_are_code_points.Goals as goal

pub returns : goal.returns
returns c = ignorable_by_points c.args.a c.args.b c.args.c (omega arith)
