use Rattle.gx_object.specs.Laws.WrittenTrees.{written_tree}
use Rattle.gx_object.proofs.laws.written_tree_is_read.Goals as goal

pub returns : goal.returns
returns c = written_tree
