use Rattle.std.proofs.Common.{sym, ◌∙◌}
use Rattle.gx_walk.proofs.OpenLemmas.{id_among, id_found}
use Rattle.gx_walk.proofs.tree.breadth.is_above.Goals as goal

pub returns : goal.returns
returns c = ((λ h. id_among c.args.ids.now c.args.id.now (sym c.has_id.ensures ∙ h)), (λ h. c.has_id.ensures ∙ id_found c.args.ids.now c.args.id.now h))
