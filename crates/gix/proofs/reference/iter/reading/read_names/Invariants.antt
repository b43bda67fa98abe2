use Rattle.std.proofs.Common.{take, option_copied}
use Rattle.gx_refs.specs.Shown.{prefix_of}
use Rattle.gix.specs.Found.{AreFound}
use Rattle.gix.proofs.reference.iter.reading.read_names.Given as goal

-- at the names so far the references were found
abbrev pub invariant-loop-name : goal.invariant-loop-name
invariant-loop-name g l = AreFound (prefix_of (option_copied l.space)) (g.S.Meanings.state l.fn.store).hash (g.S.Meanings.state l.fn.store).references (take l.name-index l.names) l.list.items
