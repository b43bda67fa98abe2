use Rattle.std.proofs.Common.{◌∙◌, sym, ap}
use Rattle.gx_edit.specs.Path.{components}
use Rattle.gx_edit.specs.PathMap.{put}
use Rattle.gx_edit.specs.PathList.{map_of, leaf_of}
use Rattle.gx_edit.specs.PathTexts.{rows_of}
use Rattle.gx_edit.proofs.KeptLemmas.{put_keeps, whole_path, is_leaf}
use Rattle.gx_edit.proofs.path_map.PathMap.put.Goals as goal

pub invariant_of-self-2 : goal.invariant_of-self-2
invariant_of-self-2 c =
    put_keeps (map_of (rows_of c.self.inside.leaves)) (map_of (rows_of c.put.new.map)) (components c.args.path.now) (leaf_of c.args.kind c.args.id) c.self.invariant
    (whole_path c.args.path.now (sym c.has_empty_name.ensures ∙ c.if-has_empty_name.false)) (is_leaf c.args.kind c.args.id c.requires.kind c.requires.id)
    (λ q. c.in_ok-put.ensures.ok q ∙ ap (λ leaf. put (map_of (rows_of c.self.inside.leaves)) (components c.args.path.now) leaf q) c.new.ensures)
