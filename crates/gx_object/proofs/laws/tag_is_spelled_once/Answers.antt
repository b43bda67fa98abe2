use Rattle.gx_object.proofs.TagParts.{one_tag}
use Rattle.gx_object.proofs.laws.tag_is_spelled_once.Goals as goal

pub returns : goal.returns
returns c = one_tag
