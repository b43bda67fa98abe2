use Rattle.gx_script.proofs.FieldLemmas.{no_describe, no_describe_set, no_describe_max, no_describe_id}
use Rattle.gx_script.proofs.history_forms.describe_form.Goals as goal

pub returns-in_err-names : goal.returns-in_err-names
returns-in_err-names c = rw c.from_residual.ensures (no_describe c.args.hash c.args.line.now c.in_err-names.ensures)

pub returns-in_err-names-2 : goal.returns-in_err-names-2
returns-in_err-names-2 c = rw c.from_residual-in_err-names-2.ensures (no_describe_set c.args.hash c.args.line.now c.in_ok-names.names.now c.in_ok-names.max.now c.in_ok-names.hex.now c.in_ok-names.ensures c.in_err-names-2.ensures)

pub returns-in_err-max : goal.returns-in_err-max
returns-in_err-max c = rw c.from_residual-in_err-max.ensures (no_describe_max c.args.hash c.args.line.now c.in_ok-names.names.now c.in_ok-names.max.now c.in_ok-names.hex.now c.in_ok-names.ensures c.in_err-max.ensures)

pub returns-in_err-id : goal.returns-in_err-id
returns-in_err-id c = rw c.from_residual-in_err-id.ensures (no_describe_id c.args.hash c.args.line.now c.in_ok-names.names.now c.in_ok-names.max.now c.in_ok-names.hex.now c.in_ok-names.ensures c.in_err-id.ensures)
