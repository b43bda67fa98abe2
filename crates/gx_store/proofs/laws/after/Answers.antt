use Rattle.gx_store.proofs.Becoming.{same_after, applied_after, stored_after, cause_after, fault_after}
use Rattle.gx_store.proofs.laws.after.Goals as goal

pub returns-clause-same : goal.returns-clause-same
returns-clause-same c = same_after

pub returns-clause-applied : goal.returns-clause-applied
returns-clause-applied c = applied_after

pub returns-clause-stored : goal.returns-clause-stored
returns-clause-stored c = stored_after

pub returns-clause-cause : goal.returns-clause-cause
returns-clause-cause c = cause_after

pub returns-clause-fault : goal.returns-clause-fault
returns-clause-fault c = fault_after
