use Rattle.std.proofs.Common.{refl}
use Rattle.gx_script.proofs.SpacedForms.{no_bases_first, no_bases_others}
use Rattle.gx_script.proofs.history_forms.bases_form.Goals as goal

pub returns-in_default-object_id : goal.returns-in_default-object_id
returns-in_default-object_id c = no_bases_first c.args.hash c.args.line.now c.in-Some.fields.now c.in-Some-next_field.name.now c.in-Some-next_field.rest.now c.in-Some.ensures c.in-Some-next_field.ensures c.in_default-object_id.ensures

pub returns-in-None : goal.returns-in-None
returns-in-None c = no_bases_others c.args.hash c.args.line.now c.in-Some.fields.now c.in-Some-next_field.name.now c.in-Some-next_field.rest.now 1023 c.in-Some.ensures c.in-Some-next_field.ensures refl (rw c.in-None.is at c.in_ok-others.ensures)
