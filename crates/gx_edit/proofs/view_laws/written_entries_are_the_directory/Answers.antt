use Rattle.std.proofs.Common.{sym}
use Rattle.gx_edit.proofs.WrittenEntries.{written_entries}
use Rattle.gx_edit.proofs.view_laws.written_entries_are_the_directory.Goals as goal

pub returns : goal.returns
returns c = λ hash content v m entries d s w f. written_entries hash content v entries w m d s f.canonical (λ q. sym (f.leaves q))
