use Rattle.std.proofs.Common.{◌∙◌, sym}
use Rattle.gx_edit.proofs.FinMapLemmas.{get_keyed}
use Rattle.gx_edit.proofs.editor.nodes.name_in.Goals as goal

pub returns : goal.returns
returns c = c.copied.ensures ∙ c.get.ensures.value ∙ sym (get_keyed c.args.name.now c.args.names.now.entries)
