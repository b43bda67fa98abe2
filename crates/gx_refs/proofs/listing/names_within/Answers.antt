use Rattle.gx_refs.proofs.ListLemmas.{one_name_more}
use Rattle.std.proofs.Common.{take}
use Rattle.gx_refs.proofs.listing.names_within.Goals as goal

pub loop-name-preserved : goal.loop-name-preserved
loop-name-preserved c =
    one_name_more c.args.space.now c.args.stored.now c.keep_within.new.names.items c.loop-name.name-index c.name-item.result c.loop-name-test.true c.name-item.is
    (c.in_ok-keep_within.ensures (take c.loop-name.name-index c.args.stored.now) c.loop-name.invariant)
