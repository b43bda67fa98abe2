use Rattle.gx_actor.proofs.SearchLemmas.{empty_index}
use Rattle.gx_actor.proofs.mailmap.snapshot.Snapshot.new.Goals as goal

pub invariant_of-result : goal.invariant_of-result
invariant_of-result c = rw (c.new.ensures.items, c.new-2.ensures.items) empty_index
