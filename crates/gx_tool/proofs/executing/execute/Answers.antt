use Rattle.gx_tool.proofs.CallLemmas.{replied, stopped}
use Rattle.gx_tool.proofs.FormLemmas.{lawful}
use Rattle.gx_tool.proofs.executing.execute.Goals as goal

pub returns : goal.returns
returns g c = record {
  reply = replied c.args.request.now (lawful c.call_laws.ensures c.args.request.now) _ _ c.call.result c.call.ensures;
  stops = stopped c.args.request.now _ _ c.call.result c.call.ensures;
}
