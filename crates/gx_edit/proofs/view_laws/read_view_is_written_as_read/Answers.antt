use Rattle.gx_edit.proofs.WrittenAsRead.{written_as_read}
use Rattle.gx_edit.proofs.view_laws.read_view_is_written_as_read.Goals as goal

pub returns : goal.returns
returns c = λ hash content tree m d h f. written_as_read hash d f.canonical (h.own d f)
