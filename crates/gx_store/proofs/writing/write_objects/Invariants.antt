use Rattle.std.proofs.Common.{take}
use Rattle.gx_store.specs.State.{Becomes, all_stored}
use Rattle.gx_store.proofs.writing.write_objects.Given as goal

-- the first objects are stored
abbrev pub invariant-loop-object : goal.invariant-loop-object
invariant-loop-object g l = Becomes (all_stored (take l.object-index l.objects) (g.S.Meanings.state l.fn.store)) (g.S.Meanings.state l.store)
