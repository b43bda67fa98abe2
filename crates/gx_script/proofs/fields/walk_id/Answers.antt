use Rattle.gx_script.proofs.FieldLemmas.{no_walk_id}
use Rattle.gx_script.proofs.fields.walk_id.Goals as goal

pub returns-in_err-object_id-in-Some : goal.returns-in_err-object_id-in-Some
returns-in_err-object_id-in-Some c = rw c.from_residual.ensures (no_walk_id c.args.hash c.args.bytes.now c.in-Some.hex.now c.in-Some.ensures c.in_err-object_id-in-Some.ensures)
