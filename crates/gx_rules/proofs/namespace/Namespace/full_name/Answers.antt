use Rattle.std.proofs.Common.{rules}
use Rattle.gx_rules.proofs.NamespaceLemmas.{stored_is_full}
use Rattle.gx_rules.proofs.namespace.Namespace.full_name.Goals as goal

pub from_bytes-requires : goal.from_bytes-requires
from_bytes-requires c = stored_is_full c.self.inside.prefix c.args.name.now c.from_vec.result c.self.invariant c.keeps_rules.ensures (search rules)
