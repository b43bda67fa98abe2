use Rattle.std.proofs.Common.{rules}
use Rattle.gx_store.specs.Slots.{refs_of}
use Rattle.gx_store.proofs.ConflictLemmas.{free}
use Rattle.gx_store.proofs.conflict.conflict_of.Goals as goal

pub returns-clause-none : goal.returns-clause-none
returns-clause-none c =
    free (refs_of c.args.map.now).targets c.args.name.now (search rules) c.in_ok-found-2.found (search rules)
