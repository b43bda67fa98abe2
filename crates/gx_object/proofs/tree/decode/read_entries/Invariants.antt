use Rattle.std.proofs.Common.{length}
use Rattle.gx_object.proofs.TreeReading.{HasRead}
use Rattle.gx_object.proofs.tree.decode.read_entries.Given as goal

abbrev pub invariant-loop-rest : goal.invariant-loop-rest
invariant-loop-rest l = HasRead l.hash l.bytes l.rest l.entries.items

abbrev pub decreases-loop-rest : goal.decreases-loop-rest
decreases-loop-rest l = length l.rest
