use Rattle.std.proofs.Common.{◌∙◌, ap, ℕ}
use Rattle.std.specs.FinMap as fin
use Rattle.std.specs.FinMap.{FinMap}
use Rattle.gx_rules.specs.Name.{name_cmp}
use Rattle.gx_edit.specs.Nodes.{map_in}
use Rattle.gx_edit.proofs.FinMapLemmas.{remove_insert}
use Rattle.gx_edit.proofs.PlaceLemmas.{same_place}
use Rattle.gx_edit.proofs.editor.nodes.Node.link.Goals as goal

pub returns-in-Err-clause-err : goal.returns-in-Err-clause-err
returns-in-Err-clause-err c =
    same_place _ _ c.in-Err.ensures.err
    (c.drop_place.ensures ∙ ap (λ (m : FinMap name_cmp ℕ). fin.remove m c.args.name.now) c.in_ok-put_place.ensures.ok ∙ remove_insert (map_in c.args.self.now.inner) c.args.name.now c.args.place c.requires)
