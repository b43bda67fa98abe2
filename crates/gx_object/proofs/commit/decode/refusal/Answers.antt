use Rattle.gx_object.proofs.Refusals.{memory_causes, place_causes}
use Rattle.gx_object.proofs.commit.decode.refusal.Goals as goal

pub returns-in-Ok : goal.returns-in-Ok
returns-in-Ok c = memory_causes c.args.hash c.args.bytes.now _ c.in-Ok.ensures

pub returns-in-Err : goal.returns-in-Err
returns-in-Err c = place_causes c.args.hash c.args.bytes.now c.in-Err.error c.in-Err.ensures
