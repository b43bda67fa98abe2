use Rattle.std.proofs.Common.{take}
use Rattle.gx_refs.specs.Listed.{KeepsWithin}
use Rattle.gx_refs.proofs.listing.names_within.Given as goal

-- of the names so far those within are kept
abbrev pub invariant-loop-name : goal.invariant-loop-name
invariant-loop-name l = KeepsWithin l.space (take l.name-index l.stored) l.names.items
