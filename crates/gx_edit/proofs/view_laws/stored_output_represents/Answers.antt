use Rattle.gx_edit.proofs.WrittenTrees.{output_represents}
use Rattle.gx_edit.proofs.view_laws.stored_output_represents.Goals as goal

pub returns : goal.returns
returns c = λ hash old new v m output d s out f kept trees. output_represents hash old new kept v m output d s out f trees
