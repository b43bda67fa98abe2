use Rattle.gx_store.specs.Outside.{IsEnd}
use Rattle.gx_script.proofs.OneReading.{bad_not_whole}
use Rattle.gx_script.proofs.laws.what_is_bad_has_no_whole_request.Goals as goal

pub returns : goal.returns
returns c = λ hash bytes left newlines. bad_not_whole hash bytes (IsEnd left) newlines
