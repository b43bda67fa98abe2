use Rattle.std.proofs.Common.{length}
use Rattle.plain_trees.proofs.listing.Listing.+agrees_at.Given as goal

abbrev pub decreases-agrees_at : goal.decreases-agrees_at
decreases-agrees_at l = length l.edits.now
