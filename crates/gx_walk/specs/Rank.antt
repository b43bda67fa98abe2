-- The numbers by which a walk queues commits.
use Rattle.std.specs.Prelude.{ℤ, pos, negsuc, ◌-ℤ◌}
use Rattle.gx_walk.specs.declared.commit.sorting.CommitTimeOrder.{CommitTimeOrder}
use Rattle.gx_walk.specs.declared.commit.sorting.CommitTimeOrder.TheVariants.{NewestFirst, OldestFirst}
use Rattle.gx_walk.specs.declared.commit.sorting.Sorting.{Sorting}
use Rattle.gx_walk.specs.declared.commit.sorting.Sorting.TheVariants.{BreadthFirst, ByCommitTime, ByCommitTimeCutoff}

-- the rank by time: the time itself, or a number that falls as the time rises
abbrev pub rank_by_time : CommitTimeOrder → ℤ → ℤ
rank_by_time NewestFirst time = negsuc 0 -ℤ time
rank_by_time OldestFirst time = time

-- the rank of a commit of that time: the lower goes first
abbrev pub rank_of : Sorting → ℤ → ℤ
rank_of BreadthFirst time = pos 0
rank_of (ByCommitTime order) time = rank_by_time order time
rank_of (ByCommitTimeCutoff order seconds) time = rank_by_time order time

-- the order needs times
abbrev pub IsByTime : Sorting → Type 0
IsByTime BreadthFirst = ⊥
IsByTime (ByCommitTime order) = Unit {0}
IsByTime (ByCommitTimeCutoff order seconds) = Unit {0}
