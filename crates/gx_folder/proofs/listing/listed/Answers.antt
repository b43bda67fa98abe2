use Rattle.std.proofs.Common.{◌∙◌}
use Rattle.gx_folder.proofs.Listings.{listing}
use Rattle.gx_folder.proofs.listing.listed.Goals as goal

pub returns : goal.returns
returns c =
    let kept = rw c.deref.ensures.value at c.in_ok-kept.ensures in
    listing c.args.prefix.now c.sort_unstable.new.self.items c.dedup.new.self.items c.from_vec.result c.sort_unstable.ensures.sorted c.dedup.ensures.filtered (c.from_vec.ensures ∙ kept)
