use Rattle.gx_tool.proofs.log_form.log.Goals as goal

pub returns : goal.returns
returns g c = record { outcome = c.log.result; told = c.log_reply.ensures; means = c.log.ensures }
