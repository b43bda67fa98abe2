use Rattle.std.proofs.Common.{rules}
use Rattle.gx_store.proofs.MapLemmas.{object_kept, object_added}
use Rattle.gx_store.proofs.maps.add_object.Goals as goal

pub returns-in-Occupied-clause-ok : goal.returns-in-Occupied-clause-ok
returns-in-Occupied-clause-ok c = object_kept c.args.map.now.entries _ c.args.id _ (search rules) (search rules)

pub returns-in_ok-bytes-in-Vacant-clause-ok : goal.returns-in_ok-bytes-in-Vacant-clause-ok
returns-in_ok-bytes-in-Vacant-clause-ok c = object_added c.args.map.now.entries _ c.args.id _ (search rules) (search rules)
