use Rattle.gix.proofs.WritingLemmas.{written_is_stored}
use Rattle.gix.proofs.object_laws.written_object_is_stored.Goals as goal

pub returns : goal.returns
returns c = written_is_stored c.writing_adds.ensures c.added_is_found.ensures
