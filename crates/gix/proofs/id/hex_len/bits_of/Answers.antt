use Rattle.gix.proofs.HexLenLemmas.{has_bits}
use Rattle.gix.proofs.id.hex_len.bits_of.Goals as goal

pub returns-else-n-eq0-clause-bits : goal.returns-else-n-eq0-clause-bits
returns-else-n-eq0-clause-bits c = has_bits c.args.n c.ilog2.result c.ilog2.ensures.power_le c.ilog2.ensures.next_power_gt
