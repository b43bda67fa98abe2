use Rattle.gx_edit.proofs.WrittenTrees.{output_root, output_trees}
use Rattle.gx_edit.proofs.view_laws.written_root_is_the_map.Goals as goal

pub returns : goal.returns
returns c = λ hash content v m output d s out f. (output_root hash content v m output d s out f, output_trees hash content v m output d s out f)
