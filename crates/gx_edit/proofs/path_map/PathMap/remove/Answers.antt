use Rattle.gx_edit.specs.Path.{components}
use Rattle.gx_edit.specs.PathList.{map_of}
use Rattle.gx_edit.specs.PathTexts.{rows_of}
use Rattle.gx_edit.proofs.KeptLemmas.{dropped_keeps}
use Rattle.gx_edit.proofs.path_map.PathMap.remove.Goals as goal

pub invariant_of-self-2 : goal.invariant_of-self-2
invariant_of-self-2 c = dropped_keeps (map_of (rows_of c.self.inside.leaves)) (map_of (rows_of c.drop_path.new.map)) (components c.args.path.now) c.self.invariant c.in_ok-drop_path.ensures.ok
