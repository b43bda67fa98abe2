-- The order of a walk: which commit comes next after those that are listed.
use Rattle.std.specs.Prelude.{◌≡◌, ◌⊎◌, ℕ, ◌≤◌, ℤ, ◌<ℤ◌, ◌≤ℤ◌, true, false, List, ◌++◌, take, slice_get, Some}
use Rattle.std.specs.List.{flat_map}
use Rattle.gx_hash.specs.declared.oid.ObjectId.{ObjectId}
use Rattle.gx_hash.specs.ObjectIds.{has_id}
use Rattle.gx_walk.specs.declared.commit.sorting.CommitTimeOrder.{CommitTimeOrder}
use Rattle.gx_walk.specs.declared.commit.sorting.CommitTimeOrder.TheVariants.{NewestFirst, OldestFirst}
use Rattle.gx_walk.specs.declared.commit.sorting.Sorting.{Sorting}
use Rattle.gx_walk.specs.declared.commit.sorting.Sorting.TheVariants.{BreadthFirst, ByCommitTime, ByCommitTimeCutoff}

-- what is mentioned when these commits are listed: the tips, and then the parents followed from each
abbrev pub mentions : (ObjectId → List ObjectId) → List ObjectId → List ObjectId → List ObjectId
mentions follow tips listed = tips ++ flat_map follow listed

-- A commit of time t that is mentioned at place i comes before one of time u that is mentioned at place j: by time, and
-- for equal times by the place. (git-rev-list(1) lists by time; the rule for equal times is ours)
abbrev pub PrecedesByTime : CommitTimeOrder → ℤ → ℕ → ℤ → ℕ → Type 0
PrecedesByTime NewestFirst t i u j = (u <ℤ t) ⊎ ((t ≡ u) × (i ≤ j))
PrecedesByTime OldestFirst t i u j = (t <ℤ u) ⊎ ((t ≡ u) × (i ≤ j))

-- One mention comes before another: breadth first by their places, else by time.
abbrev pub Precedes : Sorting → ℤ → ℕ → ℤ → ℕ → Type 0
Precedes BreadthFirst t i u j = i ≤ j
Precedes (ByCommitTime order) t i u j = PrecedesByTime order t i u j
Precedes (ByCommitTimeCutoff order seconds) t i u j = PrecedesByTime order t i u j

-- the commit is not older than the cutoff, where there is one (git-rev-list(1), "--since")
abbrev pub IsInTime : Sorting → ℤ → Type 0
IsInTime BreadthFirst time = Unit {0}
IsInTime (ByCommitTime order) time = Unit {0}
IsInTime (ByCommitTimeCutoff order seconds) time = seconds ≤ℤ time

module _ (follow : ObjectId → List ObjectId) (time : ObjectId → ℤ) (sorting : Sorting)
    (Admits : ObjectId → Type 0) (tips : List ObjectId) where
  -- The next commit is the best of the admitted mentions that are not listed yet.
  pub record IsNext (listed : List ObjectId) (x : ObjectId) : Type 0 where
    pub place : ℕ
    pub here : slice_get (mentions follow tips listed) place ≡ Some x
    pub admitted : Admits x
    pub unlisted : has_id listed x ≡ false
    pub best : (j : ℕ) (y : ObjectId) → slice_get (mentions follow tips listed) j ≡ Some y → Admits y
        → has_id listed y ≡ false → Precedes sorting (time x) place (time y) j

  -- The walk begins with these commits: each is the next one after those before it.
  abbrev pub BeginsWalk : List ObjectId → Type 0
  BeginsWalk listed = (i : ℕ) (x : ObjectId) → slice_get listed i ≡ Some x → IsNext (take i listed) x

  -- No admitted mention is left.
  abbrev pub IsExhausted : List ObjectId → Type 0
  IsExhausted listed = (x : ObjectId) → has_id (mentions follow tips listed) x ≡ true → Admits x
      → has_id listed x ≡ true

  -- The walk is the whole list. (git-rev-list(1))
  pub record IsWalk (listed : List ObjectId) : Type 0 where
    pub begins : BeginsWalk listed
    pub exhausted : IsExhausted listed

-- What some ids reach through admitted commits alone.
pub data ReachesThrough (Admits : ObjectId → Type 0) (follow : ObjectId → List ObjectId) (ids : List ObjectId)
    : ObjectId → Type 0 where
  start : {x : ObjectId} → has_id ids x ≡ true → Admits x → ReachesThrough Admits follow ids x
  step : {x y : ObjectId} → ReachesThrough Admits follow ids x → has_id (follow x) y ≡ true → Admits y
      → ReachesThrough Admits follow ids y
