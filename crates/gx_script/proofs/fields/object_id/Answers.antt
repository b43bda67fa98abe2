use Rattle.gx_script.proofs.IdLemmas.{no_id, named_is, named_ok}
use Rattle.gx_script.proofs.fields.object_id.Goals as goal

pub returns-then-not-is_hex_id : goal.returns-then-not-is_hex_id
returns-then-not-is_hex_id c = no_id c.args.hash c.args.bytes.now c.if-not-is_hex_id.ensures

pub returns-in-Ok : goal.returns-in-Ok
returns-in-Ok c = named_is c.args.hash c.args.bytes.now c.from_hex.result c.in-Ok.id c.if-not-is_hex_id.ensures c.from_hex.ensures c.in-Ok.is

pub returns-in-Err : goal.returns-in-Err
returns-in-Err c = absurd (named_ok c.args.hash c.args.bytes.now c.from_hex.result c.in-Err.field-0 c.if-not-is_hex_id.ensures c.from_hex.ensures c.in-Err.is)
