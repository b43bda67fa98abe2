-- How the best of common ancestors are found.
use Rattle.std.specs.Prelude.{◌≡◌, ℕ, ◌<◌, ℤ, Bool, not, ◌&&◌, List, slice_get, Some}
use Rattle.std.specs.List.{list_any}
use Rattle.std.specs.declared.cmp.Ordering.{Ordering}
use Rattle.std.specs.Ordering.{int_cmp, int_eq, ordering_then}
use Rattle.std.specs.BTreeSet.{BTreeSet, contains}
use Rattle.gx_hash.specs.declared.oid.ObjectId.{ObjectId}
use Rattle.gx_hash.specs.ObjectIds.{id_eq, derived_cmp, has_id}
use Rattle.gx_walk.specs.History.{History, followed, time_of}
use Rattle.gx_walk.specs.MergeBase.{StandsBefore}
use Rattle.gx_walk.specs.Rank.{rank_of}
use Rattle.gx_walk.specs.declared.commit.sorting.CommitTimeOrder.TheVariants.{NewestFirst}
use Rattle.gx_walk.specs.declared.commit.sorting.Parents.TheVariants.{All}
use Rattle.gx_walk.specs.declared.commit.sorting.Sorting.TheVariants.{ByCommitTime}

-- whether another one of these commits has this one as a parent
abbrev pub has_child : History → (ObjectId → Bool) → List ObjectId → ObjectId → Bool
has_child history is_shallow ids q = list_any (λ z. not (id_eq z q) && has_id (followed history All is_shallow z) q) ids

-- the rank of the commit at an id: the lower goes first
abbrev pub rank_at : History → ObjectId → ℤ
rank_at history id = rank_of (ByCommitTime NewestFirst) (time_of history id)

-- by rank, then by id
abbrev pub key_cmp : ℤ × ObjectId → ℤ × ObjectId → Ordering
key_cmp a b = ordering_then (int_cmp a.0 b.0) (derived_cmp a.1 b.1)

-- the keys are those of the ids that are not marked, each under its rank
abbrev pub AreUnmarked : (ObjectId → ℤ) → (ObjectId → Bool) → List ObjectId → BTreeSet (ℤ × ObjectId) → Type 0
AreUnmarked rank marked ids keys = (r : ℤ) (q : ObjectId)
    → contains key_cmp keys (r, q) ≡ (int_eq r (rank q) && (not (marked q) && has_id ids q))

-- those of some commits that no other one of them has as a parent, newest first
pub record IsBestOf (history : History) (is_shallow : ObjectId → Bool) (ids bases : List ObjectId) : Type 0 where
  pub exact : (x : ObjectId) → has_id bases x ≡ (not (has_child history is_shallow ids x) && has_id ids x)
  pub ordered : (i j : ℕ) (x y : ObjectId) → i < j → slice_get bases i ≡ Some x → slice_get bases j ≡ Some y
      → StandsBefore (time_of history x) x (time_of history y) y
