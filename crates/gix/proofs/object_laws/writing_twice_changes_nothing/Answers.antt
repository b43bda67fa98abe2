use Rattle.gix.proofs.WritingLemmas.{writes_twice}
use Rattle.gix.proofs.object_laws.writing_twice_changes_nothing.Goals as goal

pub returns : goal.returns
returns c = writes_twice c.writing_adds.ensures c.writes_once.ensures
