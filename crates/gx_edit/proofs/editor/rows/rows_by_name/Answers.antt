use Rattle.gx_edit.proofs.EditorRows.{names_rise}
use Rattle.gx_edit.proofs.editor.rows.rows_by_name.Goals as goal

pub returns-in_err-push_name-clause-ordered : goal.returns-in_err-push_name-clause-ordered
returns-in_err-push_name-clause-ordered c = names_rise c.args.node.now.names.entries c.iter-name-items.ensures.ordered

pub returns-clause-ordered : goal.returns-clause-ordered
returns-clause-ordered c = names_rise c.args.node.now.names.entries c.iter-name-items.ensures.ordered
