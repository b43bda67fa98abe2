use Rattle.std.proofs.Common.{◌≡◌, subst}
use Rattle.std.specs.BTreeMap.{get}
use Rattle.gx_hash.specs.Laws.{derived_cmp-id_cmp}
use Rattle.gx_walk.proofs.IdLemmas.{put_is}
use Rattle.gx_walk.proofs.describe.name_map.NameMap.insert.Goals as goal

pub returns-clause-replaced : goal.returns-clause-replaced
returns-clause-replaced c = subst (λ R. c.in_ok-insert.field-0 ≡ get R c.args.self.now.names c.args.id) derived_cmp-id_cmp c.in_ok-insert.ensures.old

pub returns-clause-ok : goal.returns-clause-ok
returns-clause-ok c = put_is c.args.self.now.names.entries c.insert.new.self.entries c.args.id c.args.name c.in_ok-insert.ensures.updates.0
