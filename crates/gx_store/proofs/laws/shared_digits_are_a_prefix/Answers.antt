use Rattle.gx_hash.specs.ObjectId.{hex_of}
use Rattle.gx_store.proofs.PrefixLemmas.{prefix_shared, shared_prefix, shares_less}
use Rattle.gx_store.proofs.laws.shared_digits_are_a_prefix.Goals as goal

pub returns-clause-shares : goal.returns-clause-shares
returns-clause-shares c = λ a b n p e. prefix_shared (hex_of a) (hex_of b) n p e

pub returns-clause-begins : goal.returns-clause-begins
returns-clause-begins c = λ a b n p. shared_prefix (hex_of a) (hex_of b) n p

pub returns-clause-less : goal.returns-clause-less
returns-clause-less c = λ content other p. shares_less content c.args.id.now other c.id_has_digits.ensures.held p
