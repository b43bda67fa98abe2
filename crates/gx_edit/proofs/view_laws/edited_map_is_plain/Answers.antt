use Rattle.gx_edit.proofs.PlainNames.{edits_plain}
use Rattle.gx_edit.proofs.view_laws.edited_map_is_plain.Goals as goal

pub returns : goal.returns
returns c = λ hash m edits plain named. edits_plain hash edits m plain named
