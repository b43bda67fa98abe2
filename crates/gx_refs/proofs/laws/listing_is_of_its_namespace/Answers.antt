use Rattle.gx_refs.proofs.ListLemmas.{lists_its_own}
use Rattle.gx_refs.proofs.laws.listing_is_of_its_namespace.Goals as goal

pub returns : goal.returns
returns c = lists_its_own
