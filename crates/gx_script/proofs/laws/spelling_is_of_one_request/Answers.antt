use Rattle.gx_script.proofs.OneReading.{one_request}
use Rattle.gx_script.proofs.laws.spelling_is_of_one_request.Goals as goal

pub returns : goal.returns
returns c = one_request
