use Rattle.gx_tool.proofs.ReferenceForms.{no_memory_executes}
use Rattle.gx_tool.proofs.delete_form.delete.Goals as goal

pub returns-in-Err : goal.returns-in-Err
returns-in-Err g c = no_memory_executes _ _ _
