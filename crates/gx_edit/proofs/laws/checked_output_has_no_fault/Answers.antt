use Rattle.gx_edit.proofs.ReadyLemmas.{no_fault}
use Rattle.gx_edit.proofs.laws.checked_output_has_no_fault.Goals as goal

pub returns : goal.returns
returns c = λ output protect given checked ready new error own m r cause. no_fault c.writing_adds.ensures output protect given checked ready own m r new error cause
