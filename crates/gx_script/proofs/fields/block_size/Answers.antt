use Rattle.std.proofs.Common.{arith}
use Rattle.gx_script.proofs.LineLemmas.{large_size}
use Rattle.gx_script.proofs.fields.block_size.Goals as goal

pub returns-else-size-le-BLOCK_LIMIT : goal.returns-else-size-le-BLOCK_LIMIT
returns-else-size-le-BLOCK_LIMIT c = large_size c.args.bytes.now c.in_ok-size.size c.in_ok-size.ensures (omega arith) (λ le. absurd (omega arith))
