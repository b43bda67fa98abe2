use Rattle.std.proofs.Common.{arith}
use Rattle.std.proofs.lemmas.Int.{ints, to_z-of_z}
use Rattle.gx_actor.proofs.date.civil.utc_seconds.Goals as goal

pub returns : goal.returns
returns c = first_of (omega (arith, ints), omega (arith, ints, to_z-of_z), grind (arith, ints, to_z-of_z), grind (arith, to_z-of_z))
