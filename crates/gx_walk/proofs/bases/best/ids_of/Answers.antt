use Rattle.std.proofs.Common.{rules}
use Rattle.std.proofs.lemmas.Iterator.{items_from_collect, YieldsList-from_map}
use Rattle.std.proofs.lemmas.Iterator.Consumers.{YieldsList-at, YieldsList-from_rest}
use Rattle.gx_walk.proofs.bases.best.ids_of.Goals as goal

pub returns-clause-ids : goal.returns-clause-ids
returns-clause-ids c = items_from_collect c.collect.result c.collect.ensures.ran
    (YieldsList-from_map _ (λ e. e.1) (YieldsList-at c.map.ensures.source (YieldsList-from_rest c.args.keys.now.keys c.iter.ensures.rest)) c.map.ensures.closure (λ x r q k. search rules))
