use Rattle.gx_edit.proofs.WrittenTrees.{written_inside}
use Rattle.gx_edit.proofs.view_laws.written_entries_are_the_inner_directory.Goals as goal

pub returns : goal.returns
returns c = λ hash content v m p entries d s w f. written_inside hash content v m d s f p entries w
