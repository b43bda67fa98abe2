use Rattle.gix.proofs.OwnListingLemmas.{own_references}
use Rattle.gix.proofs.laws.references_are_of_their_namespace.Goals as goal

pub returns : goal.returns
returns c = own_references c.listing_is_of_its_namespace.ensures
