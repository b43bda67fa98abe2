use Rattle.gx_edit.proofs.LoadLemmas.{has_load}
use Rattle.gx_edit.proofs.view_laws.load_exists.Goals as goal

pub returns : goal.returns
returns c = λ hash content. has_load hash content (c.bytes_are_read_in_one_way.ensures.always hash)
