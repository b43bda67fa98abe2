-- What a walk keeps of its mentions.
use Rattle.std.specs.Prelude.{◌≡◌, ◌⊎◌, ℕ, ◌≤◌, ℤ, ◌<ℤ◌, Bool, true, false, not, ◌&&◌, ◌||◌, List, [], ◌∷◌, ◌++◌, length, take, slice_get, Some, IsSome}
use Rattle.std.specs.declared.cmp.Ordering.{Ordering}
use Rattle.std.specs.Ordering.{nat_cmp, int_cmp, ordering_then}
use Rattle.std.specs.BTreeMap as map
use Rattle.gx_hash.specs.declared.oid.ObjectId.{ObjectId}
use Rattle.gx_hash.specs.ObjectIds.{id_eq, has_id}
use Rattle.gx_walk.specs.History.{History, time_of}
use Rattle.gx_walk.specs.Rank.{rank_of, IsByTime}
use Rattle.gx_walk.specs.Walk.{IsInTime}
use Rattle.gx_walk.specs.Simple.{AskedOnce, answer_at}
use Rattle.gx_walk.specs.declared.commit.frontier.Frontier.{Frontier}
use Rattle.gx_walk.specs.declared.commit.frontier.Sets.{Sets}
use Rattle.gx_walk.specs.declared.commit.sorting.Sorting.{Sorting}

-- whether the id is never listed
abbrev pub is_excluded : Sets → ObjectId → Bool
is_excluded sets id = has_id sets.boundary id || has_id sets.hidden id

-- by rank, then by place
abbrev pub key_cmp : ℤ × ℕ → ℤ × ℕ → Ordering
key_cmp a b = ordering_then (int_cmp a.0 b.0) (nat_cmp a.1 b.1)

-- the commit was read, if the order needs its time
abbrev pub IsReadFor : Sorting → History → ObjectId → Type 0
IsReadFor sorting history id = IsByTime sorting → IsSome (history id)

-- nothing was mentioned yet
pub record IsEmpty (f : Frontier) : Type 0 where
  pub queue : f.queue.entries ≡ []
  pub seen : f.seen ≡ []
  pub asked : f.asked.items ≡ []
  pub count : f.count ≡ 0

-- the filter was asked about no id twice, and only about ids that were seen
pub record IsAskedBy (f : Frontier) : Type 0 where
  pub once : AskedOnce f.asked.items
  pub within : (id : ObjectId) → IsSome (answer_at f.asked.items id) → has_id f.seen id ≡ true

-- the id was seen before and nothing changed, or the filter was asked about it and gave this answer
pub record IsAnswered (old new : Frontier) (id : ObjectId) (admitted : Bool) : Type 0 where
  pub queue : new.queue ≡ old.queue
  pub count : new.count ≡ old.count
  pub seen : (one : ObjectId) → has_id new.seen one ≡ (id_eq id one || has_id old.seen one)
  pub asked : ((has_id old.seen id ≡ true) × (new.asked.items ≡ old.asked.items) × (admitted ≡ false))
      ⊎ ((has_id old.seen id ≡ false) × (new.asked.items ≡ old.asked.items ++ (id, admitted) ∷ []))

-- all but the queue is as before
pub record IsKept (old new : Frontier) : Type 0 where
  pub seen : new.seen ≡ old.seen
  pub asked : new.asked.items ≡ old.asked.items
  pub count : new.count ≡ old.count

-- the id is queued for its place under its rank, or it is older than the cutoff
pub record Enqueues (history : History) (sorting : Sorting) (place : ℕ) (id : ObjectId) (old new : Frontier)
    : Type 0 where
  pub read : IsReadFor sorting history id
  pub queue : (IsInTime sorting (time_of history id)
      × map.Updates key_cmp old.queue new.queue (rank_of sorting (time_of history id), place) (Some id))
      ⊎ ((¬ IsInTime sorting (time_of history id)) × (new.queue.entries ≡ old.queue.entries))

module _ (history : History) (sorting : Sorting) (excluded : ObjectId → Bool) where
  -- the rank of the commit at an id
  abbrev pub rank_at : ObjectId → ℤ
  rank_at id = rank_of sorting (time_of history id)

  -- an id that may be listed, by what the filter answered so far
  pub record Admits (asked : List (ObjectId × Bool)) (id : ObjectId) : Type 0 where
    pub inside : excluded id ≡ false
    pub answered : answer_at asked id ≡ Some true
    pub in_time : IsInTime sorting (time_of history id)

  -- an id queued under its rank, at the place of its first mention
  pub record IsQueued (asked : List (ObjectId × Bool)) (mentioned listed : List ObjectId) (r : ℤ) (i : ℕ)
      (x : ObjectId) : Type 0 where
    pub here : slice_get mentioned i ≡ Some x
    pub first : has_id (take i mentioned) x ≡ false
    pub ranked : r ≡ rank_at x
    pub admitted : Admits asked x
    pub unlisted : has_id listed x ≡ false

  -- the frontier contains what is mentioned, admitted and not listed
  pub record IsFrontier (mentioned listed : List ObjectId) (f : Frontier) : Type 0 where
    pub count_is : f.count ≡ length mentioned
    pub seen_is : (q : ObjectId) → has_id f.seen q ≡ (not (excluded q) && has_id mentioned q)
    pub listed_in : (q : ObjectId) → has_id listed q ≡ true → has_id mentioned q ≡ true
    pub asked_in : (q : ObjectId) → IsSome (answer_at f.asked.items q) → has_id f.seen q ≡ true
    pub answered : (q : ObjectId) → has_id mentioned q ≡ true → excluded q ≡ false → IsSome (answer_at f.asked.items q)
    pub read : (q : ObjectId) → has_id mentioned q ≡ true → excluded q ≡ false
        → answer_at f.asked.items q ≡ Some true → IsReadFor sorting history q
    pub queued : (r : ℤ) (i : ℕ) (x : ObjectId) → map.get key_cmp f.queue (r, i) ≡ Some x
        → IsQueued f.asked.items mentioned listed r i x
    pub waiting : (j : ℕ) (x : ObjectId) → slice_get mentioned j ≡ Some x → Admits f.asked.items x
        → has_id listed x ≡ false → (i : ℕ) × (i ≤ j) × (map.get key_cmp f.queue (rank_at x, i) ≡ Some x)

  -- x is the best of the mentions that are admitted and not listed
  pub record IsBest (asked : List (ObjectId × Bool)) (mentioned listed : List ObjectId) (x : ObjectId) : Type 0 where
    pub place : ℕ
    pub here : slice_get mentioned place ≡ Some x
    pub admitted : Admits asked x
    pub unlisted : has_id listed x ≡ false
    pub best : (j : ℕ) (y : ObjectId) → slice_get mentioned j ≡ Some y → Admits asked y → has_id listed y ≡ false
        → (rank_at x <ℤ rank_at y) ⊎ ((rank_at x ≡ rank_at y) × (place ≤ j))

  -- each admitted mention is listed
  abbrev pub IsSpent : List (ObjectId × Bool) → List ObjectId → List ObjectId → Type 0
  IsSpent asked mentioned listed = (x : ObjectId) → has_id mentioned x ≡ true → Admits asked x → has_id listed x ≡ true

  -- these mentions are added to the frontier
  abbrev pub Mentions : List ObjectId → Frontier → Frontier → Type 0
  Mentions ids old new = (mentioned listed : List ObjectId)
      → IsFrontier mentioned listed old → IsFrontier (mentioned ++ ids) listed new

-- the commit taken is the best in the frontier, and the others are left in it
pub record TakesBest (old new : Frontier) (x : ObjectId) : Type 0 where
  pub best : (history : History) (sorting : Sorting) (excluded : ObjectId → Bool) (mentioned listed : List ObjectId)
      → IsFrontier history sorting excluded mentioned listed old
      → IsBest history sorting excluded new.asked.items mentioned listed x
  pub kept : (history : History) (sorting : Sorting) (excluded : ObjectId → Bool) (mentioned listed : List ObjectId)
      → IsFrontier history sorting excluded mentioned listed old
      → IsFrontier history sorting excluded mentioned (listed ++ x ∷ []) new

-- nothing was left to take
pub record TakesNone (old new : Frontier) : Type 0 where
  pub none : (history : History) (sorting : Sorting) (excluded : ObjectId → Bool) (mentioned listed : List ObjectId)
      → IsFrontier history sorting excluded mentioned listed old
      → IsSpent history sorting excluded new.asked.items mentioned listed
  pub kept : (history : History) (sorting : Sorting) (excluded : ObjectId → Bool) (mentioned listed : List ObjectId)
      → IsFrontier history sorting excluded mentioned listed old
      → IsFrontier history sorting excluded mentioned listed new

-- one of these ids, which is not excluded and which the filter admitted
pub record IsAdmittedOf (sets : Sets) (asked : List (ObjectId × Bool)) (ids : List ObjectId) (id : ObjectId)
    : Type 0 where
  pub among : has_id ids id ≡ true
  pub inside : is_excluded sets id ≡ false
  pub answered : answer_at asked id ≡ Some true
