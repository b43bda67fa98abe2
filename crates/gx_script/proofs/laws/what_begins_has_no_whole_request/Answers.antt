use Rattle.gx_script.proofs.OneReading.{begun_not_whole}
use Rattle.gx_script.proofs.laws.what_begins_has_no_whole_request.Goals as goal

pub returns : goal.returns
returns c = begun_not_whole
