use Rattle.gx_script.proofs.FieldLemmas.{no_note, no_note_name, no_note_id, no_note_size}
use Rattle.gx_script.proofs.opening.note_opening.Goals as goal

pub returns-in_default : goal.returns-in_default
returns-in_default c = no_note c.args.hash c.args.line.now c.in_default.ensures

pub returns-in_default-2 : goal.returns-in_default-2
returns-in_default-2 c = no_note_name c.args.hash c.args.line.now c.in-Some.name.now c.in-Some.hex.now c.in-Some.digits.now c.in-Some.ensures (rw c.in_default-2.is at c.in_ok-reference.ensures)

pub returns-in_default-object_id : goal.returns-in_default-object_id
returns-in_default-object_id c = no_note_id c.args.hash c.args.line.now c.in-Some.name.now c.in-Some.hex.now c.in-Some.digits.now c.in-Some.ensures c.in_default-object_id.ensures

pub returns-in-None : goal.returns-in-None
returns-in-None c = no_note_size c.args.hash c.args.line.now c.in-Some.name.now c.in-Some.hex.now c.in-Some.digits.now c.in-Some.ensures c.in-None.ensures
