use Rattle.gx_script.proofs.FieldLemmas.{no_drop, no_drop_name, no_drop_id}
use Rattle.gx_script.proofs.note_forms.note_drop_form.Goals as goal

pub returns-in_default : goal.returns-in_default
returns-in_default c = no_drop c.args.hash c.args.line.now c.in_default.ensures

pub returns-in_default-2 : goal.returns-in_default-2
returns-in_default-2 c = no_drop_name c.args.hash c.args.line.now c.in-Some.name.now c.in-Some.hex.now c.in-Some.ensures (rw c.in_default-2.is at c.in_ok-reference.ensures)

pub returns-in-None : goal.returns-in-None
returns-in-None c = no_drop_id c.args.hash c.args.line.now c.in-Some.name.now c.in-Some.hex.now c.in-Some.ensures c.in-None.ensures
