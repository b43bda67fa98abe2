use Rattle.gx_hash.specs.Laws.IdOrder.{derived_hash-id_hash_input}
use Rattle.gx_hash.proofs.laws.hashes_kind_and_bytes.Goals as goal

pub returns : goal.returns
returns c = derived_hash-id_hash_input
