use Rattle.std.proofs.Common.{take}
use Rattle.std.specs.List.{AllByRecursion}
use Rattle.gx_edit.specs.ReadMapCauses.{IsSound}
use Rattle.gx_edit.proofs.stored_tree.listing.are_sound.Given as goal

-- the entries so far are sound
abbrev pub invariant-loop-entry : goal.invariant-loop-entry
invariant-loop-entry l = AllByRecursion IsSound (take l.entry-index l.entries)
