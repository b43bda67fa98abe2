use Rattle.gx_tool.proofs.FormLemmas.{not_served}
use Rattle.gx_tool.proofs.UnservedForm.{unserved_executes}
use Rattle.gx_tool.proofs.executing.call.Goals as goal

pub returns-in_default : goal.returns-in_default
returns-in_default g c = rw (not_served c.args.request.now c.in_default.not-Commit c.in_default.not-Log c.in_default.not-Refs c.in_default.not-Ref c.in_default.not-Delete) (unserved_executes _)
