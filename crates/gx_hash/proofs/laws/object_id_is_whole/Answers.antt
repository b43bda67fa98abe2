use Rattle.gx_hash.specs.Laws.Digests.{object_id_is_whole, object_id_digits, object_id_kind}
use Rattle.gx_hash.proofs.laws.object_id_is_whole.Goals as goal

pub returns-clause-bytes : goal.returns-clause-bytes
returns-clause-bytes c = object_id_is_whole

pub returns-clause-digits : goal.returns-clause-digits
returns-clause-digits c = object_id_digits

pub returns-clause-kind : goal.returns-clause-kind
returns-clause-kind c = object_id_kind
