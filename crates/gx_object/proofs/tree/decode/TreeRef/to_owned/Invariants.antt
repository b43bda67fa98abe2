use Rattle.std.proofs.Common.{◌≡◌, map, take}
use Rattle.gx_object.specs.TreeSpelling.{entry_of}
use Rattle.gx_object.proofs.tree.decode.TreeRef.to_owned.Given as goal

-- the entries so far are copied
abbrev pub invariant-loop-entry : goal.invariant-loop-entry
invariant-loop-entry l = l.owned.items ≡ map entry_of (take l.entry-index l.entries)
