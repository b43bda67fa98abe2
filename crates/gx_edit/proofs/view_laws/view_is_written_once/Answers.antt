use Rattle.gx_edit.proofs.WrittenEntries.{written_once}
use Rattle.gx_edit.proofs.view_laws.view_is_written_once.Goals as goal

pub returns : goal.returns
returns c = λ hash v a b x y. written_once hash v a b x y
