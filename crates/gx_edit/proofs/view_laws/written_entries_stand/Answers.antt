use Rattle.gx_edit.proofs.WrittenStand.{entries_stand}
use Rattle.gx_edit.proofs.view_laws.written_entries_stand.Goals as goal

pub returns : goal.returns
returns c = λ hash content v m output s out. entries_stand hash content v m output s out
