use Rattle.std.proofs.Common.{length}
use Rattle.plain_trees.proofs.listing.Listing.+with_leaf.Given as goal

abbrev pub decreases-with_leaf : goal.decreases-with_leaf
decreases-with_leaf l = length l.path.now
