use Rattle.gx_script.proofs.OneReading.{one_script}
use Rattle.gx_script.proofs.laws.a_script_is_read_one_way.Goals as goal

pub returns : goal.returns
returns c = one_script
