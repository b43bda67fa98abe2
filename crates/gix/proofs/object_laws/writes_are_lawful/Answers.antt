use Rattle.gix.specs.CommitOverTree.{commit_writing}
use Rattle.gix.specs.Writes.{buffer_writing, object_writing}
use Rattle.gix.proofs.WritingLemmas.{writing_lawful}
use Rattle.gix.proofs.object_laws.writes_are_lawful.Goals as goal

pub returns-clause-buffer : goal.returns-clause-buffer
returns-clause-buffer c = λ kind bytes. writing_lawful (buffer_writing kind bytes)

pub returns-clause-object : goal.returns-clause-object
returns-clause-object c = λ kind spelling is_writable. writing_lawful (object_writing kind spelling is_writable)

pub returns-clause-commit : goal.returns-clause-commit
returns-clause-commit c = λ tree r. writing_lawful (commit_writing tree r)
