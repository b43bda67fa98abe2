use Rattle.std.proofs.Common.{Some, None, subst}
use Rattle.gx_object.specs.PartsRead.{PartsRead}
use Rattle.gx_object.specs.TreeSpelling.{entry_of}
use Rattle.gix.specs.TreeEntries.{IsFirstNamed}
use Rattle.gix.proofs.types.Tree.find_entry.Goals as goal

pub returns-in-Some-clause-found : goal.returns-in-Some-clause-found
returns-in-Some-clause-found g c =
    subst (λ (read : PartsRead). IsFirstNamed read.text c.args.name.now (Some (entry_of c.in-Some.inner))) c.entries.ensures c.in-Some.ensures

pub returns-in-None-clause-found : goal.returns-in-None-clause-found
returns-in-None-clause-found g c =
    subst (λ (read : PartsRead). IsFirstNamed read.text c.args.name.now None) c.entries.ensures c.in-None.ensures
