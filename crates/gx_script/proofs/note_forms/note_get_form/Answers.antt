use Rattle.gx_script.proofs.SpacedForms.{no_get_object, no_get_patterns, rest_open}
use Rattle.gx_script.proofs.note_forms.note_get_form.Goals as goal

pub returns-in_default-object_id : goal.returns-in_default-object_id
returns-in_default-object_id c = no_get_object c.args.hash c.args.line.now c.in-Some.fields.now c.in-Some-next_field.hex.now c.in-Some-next_field.rest.now c.in-Some.ensures c.in-Some-next_field.ensures c.in_default-object_id.ensures

pub patterns-requires : goal.patterns-requires
patterns-requires c = rest_open c.args.line.now c.in-Some.fields.now c.in-Some-next_field.hex.now c.in-Some-next_field.rest.now c.requires c.in-Some.ensures c.in-Some-next_field.ensures

pub returns-in-None : goal.returns-in-None
returns-in-None c = no_get_patterns c.args.hash c.args.line.now c.in-Some.fields.now c.in-Some-next_field.hex.now c.in-Some-next_field.rest.now c.in-Some.ensures c.in-Some-next_field.ensures (rw c.in-None.is at c.in_ok-patterns.ensures)
