use Rattle.std.proofs.Common.{length}
use Rattle.gx_object.proofs.TreeReading.{HasPassed}
use Rattle.gx_object.proofs.tree.decode.refusal.Given as goal

abbrev pub invariant-loop-rest : goal.invariant-loop-rest
invariant-loop-rest l = HasPassed l.hash l.bytes l.rest

abbrev pub decreases-loop-rest : goal.decreases-loop-rest
decreases-loop-rest l = length l.rest
