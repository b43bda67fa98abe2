use Rattle.std.proofs.Common.{◌∙◌}
use Rattle.gx_edit.proofs.TextLemmas.{found_leaf}
use Rattle.gx_edit.proofs.path_map.texts.leaf_at.Goals as goal

pub returns : goal.returns
returns c = c.copied.ensures ∙ c.get.ensures.value ∙ found_leaf c.args.map.now.entries c.args.path.now
