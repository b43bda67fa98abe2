use Rattle.std.proofs.Common.{rules, refl}
use Rattle.gx_refs.proofs.LogLemmas.{as_there_is, as_there_is_told, fault_of_log}
use Rattle.gx_refs.proofs.log.is_due_normally.Goals as goal

pub returns-clause-untold : goal.returns-clause-untold
returns-clause-untold g c = as_there_is _ c.args.force c.args.name.now c.log_exists.result refl (search rules) (search rules)

pub returns-clause-due : goal.returns-clause-due
returns-clause-due g c = as_there_is_told _ c.args.force c.args.name.now c.log_exists.result (search rules) (search rules) c.log_exists.ensures.found

pub returns-clause-fault : goal.returns-clause-fault
returns-clause-fault g c = fault_of_log (g.S.Meanings.state c.args.store.now) c.args.force c.args.name.now c.log_exists.result (search rules) (search rules) c.log_exists.ensures.fault
