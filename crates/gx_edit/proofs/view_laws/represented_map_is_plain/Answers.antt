use Rattle.std.proofs.Common.{◌∙◌}
use Rattle.gx_edit.proofs.PlainNames.{directory_plain}
use Rattle.gx_edit.proofs.view_laws.represented_map_is_plain.Goals as goal

pub returns : goal.returns
returns c = λ hash content tree m r p leaf at. directory_plain p r.directory leaf r.stands.canonical (r.stands.leaves p ∙ at)
