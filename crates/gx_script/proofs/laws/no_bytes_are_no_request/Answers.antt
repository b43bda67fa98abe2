use Rattle.gx_script.proofs.OneReading.{nothing_whole}
use Rattle.gx_script.proofs.laws.no_bytes_are_no_request.Goals as goal

pub returns : goal.returns
returns c = nothing_whole
