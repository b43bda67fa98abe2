use Rattle.gx_store.specs.Slots.{refs_of}
use Rattle.gx_store.proofs.Listings.{listing}
use Rattle.gx_store.proofs.memory.MemoryReferences.list.Goals as goal

pub returns-clause-listing : goal.returns-clause-listing
returns-clause-listing c = listing c.args.prefix.now (refs_of c.args.self.now.slots).targets c.in_ok-names_of.field-0 c.in_ok-names_of.ensures
