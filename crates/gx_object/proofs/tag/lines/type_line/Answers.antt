use Rattle.gx_object.proofs.TagLineLemmas.{no_type_line, no_type_word, no_type_name}
use Rattle.gx_object.proofs.tag.lines.type_line.Goals as goal

pub returns-in_err-line : goal.returns-in_err-line
returns-in_err-line c = rw c.from_residual.ensures (no_type_line c.args.bytes.now c.in_err-line.ensures)

pub returns-in_err-after : goal.returns-in_err-after
returns-in_err-after c = rw c.from_residual-in_err-after.ensures (no_type_word c.args.bytes.now c.in_ok-line.line.now c.in_ok-line.rest.now c.in_ok-line.ensures c.in_err-after.ensures)

pub returns-in_err-kind : goal.returns-in_err-kind
returns-in_err-kind c = rw c.from_residual-in_err-kind.ensures (no_type_name c.args.bytes.now c.in_ok-line.line.now c.in_ok-line.rest.now c.in_ok-after.field-0.now c.in_ok-line.ensures c.in_ok-after.ensures c.in_err-kind.ensures.value)
