use Rattle.std.proofs.Common.{length}
use Rattle.gx_edit.specs.ReadMapCauses.{AreRising}
use Rattle.gx_edit.proofs.stored_tree.listing.are_rising.Given as goal

-- the entries rise where those that are left do
abbrev pub invariant-loop-first : goal.invariant-loop-first
invariant-loop-first l = record { before : AreRising l.rest → AreRising l.fn.entries; behind : AreRising l.fn.entries → AreRising l.rest }

abbrev pub decreases-loop-first : goal.decreases-loop-first
decreases-loop-first l = length l.rest
