use Rattle.gx_script.proofs.FieldLemmas.{no_delete, no_delete_name, no_delete_expect}
use Rattle.gx_script.proofs.reference_forms.delete_form.Goals as goal

pub returns-in_default : goal.returns-in_default
returns-in_default c = no_delete c.args.hash c.args.line.now c.in_default.ensures

pub returns-in_default-2 : goal.returns-in_default-2
returns-in_default-2 c = no_delete_name c.args.hash c.args.line.now c.in-Some.name.now c.in-Some.wanted.now c.in-Some.ensures (rw c.in_default-2.is at c.in_ok-name.ensures)

pub returns-in_default-3 : goal.returns-in_default-3
returns-in_default-3 c = no_delete_expect c.args.hash c.args.line.now c.in-Some.name.now c.in-Some.wanted.now c.in-Some.ensures (rw c.in_default-3.is at c.in_ok-expect.ensures)
