-- A walk as its callers see it.
use Rattle.std.specs.Prelude.{◌≡◌, ◌⊎◌, ℕ, ◌-◌, ◌^◌, ℤ, Bool, true, false, if◌then◌else◌, List, [], ◌∷◌, ◌++◌, length, slice_get, Option, Some, None, IsSome, Result, Ok, Err, refl}
use Rattle.std.specs.List.{FoldsTo}
use Rattle.std.specs.Map.{lookup}
use Rattle.std.specs.BTreeMap.{is_at}
use Rattle.std.specs.Coded.{Coded, code_by, coded×, coded_list, coded_bool}
use Rattle.gx_hash.specs.ObjectId.{id_cmp}
use Rattle.gx_hash.specs.declared.oid.ObjectId.{ObjectId}
use Rattle.gx_hash.specs.contracts.oid.ObjectId as object_id
use Rattle.gx_store.specs.State.{StoreState}
use Rattle.gx_hash.specs.ObjectIds.{has_id}
use Rattle.gx_walk.specs.History.{History, Told, time_of, followed, Reaches}
use Rattle.gx_walk.specs.Walk.{mentions, IsInTime, IsNext, BeginsWalk, IsWalk}
use Rattle.gx_walk.specs.Causes.{CommitCauses}
use Rattle.gx_walk.specs.declared.error.WalkError.{WalkError}
use Rattle.gx_walk.specs.declared.commit.info.Info.{Info}
use Rattle.gx_walk.specs.declared.commit.sorting.Parents.TheVariants.{All}
use Rattle.gx_walk.specs.declared.commit.sorting.Sorting.{Sorting}
use Rattle.gx_walk.specs.declared.commit.sorting.Sorting.TheVariants.{BreadthFirst, ByCommitTime, ByCommitTimeCutoff}
use Rattle.gx_walk.specs.declared.commit.sorting.WalkOptions.{WalkOptions}
use Rattle.gx_walk.specs.contracts.commit.sorting.WalkOptions as walk_options

-- The state of a walk: its store, filter and options, the ids that it has listed, the ids that it has asked the filter
-- about with the answers, and whether it has ended with an error.
pub record Walk (S F : Type 0) : Type 0 where
  pub store : S
  pub filter : F
  pub options : WalkOptions
  pub listed : List ObjectId
  pub asked : List (ObjectId × Bool)
  pub failed : Bool

-- a walk that has not begun
abbrev pub fresh : {S F : Type 0} → S → F → WalkOptions → Walk S F
fresh store filter options = record {
  store = store;
  filter = filter;
  options = options;
  listed = [];
  asked = [];
  failed = false;
}

-- the options of a new walk from these tips
abbrev pub plain_options : List ObjectId → WalkOptions
plain_options tips = record {
  sorting = BreadthFirst;
  parents = All;
  tips = tips;
  hidden = [];
  boundary = [];
  shallow = [];
}

-- ---- which commits belong to a walk

-- the parents that a walk follows
abbrev pub follow : History → WalkOptions → ObjectId → List ObjectId
follow history options = followed history options.parents (has_id options.shallow)

-- the filter's answer about an id, if it was asked
abbrev pub answer_at : List (ObjectId × Bool) → ObjectId → Option Bool
answer_at asked id = lookup (is_at (id_cmp id)) asked

-- The hidden ids reach the id: along the same parents, whatever the filter, the boundary and a cutoff say.
-- (git-rev-list(1), "^<commit>")
abbrev pub IsHidden : History → WalkOptions → ObjectId → Type 0
IsHidden history options id = Reaches (follow history options) options.hidden id

-- An id is admitted where it is not in the boundary, not hidden, the filter answered true for it, and it is not older
-- than a cutoff.
pub record IsAdmitted (history : History) (options : WalkOptions) (asked : List (ObjectId × Bool)) (id : ObjectId)
    : Type 0 where
  pub inside : has_id options.boundary id ≡ false
  pub shown : ¬ IsHidden history options id
  pub answered : answer_at asked id ≡ Some true
  pub in_time : IsInTime options.sorting (time_of history id)

-- Which commit is next after those that are listed, whether a walk begins with a list, and whether a list is the whole
-- walk.
module _ (history : History) (options : WalkOptions) (asked : List (ObjectId × Bool)) where
  abbrev pub IsNextOf : List ObjectId → ObjectId → Type 0
  IsNextOf = IsNext (follow history options) (time_of history) options.sorting
      (IsAdmitted history options asked) options.tips

  abbrev pub BeginsWalkOf : List ObjectId → Type 0
  BeginsWalkOf = BeginsWalk (follow history options) (time_of history) options.sorting
      (IsAdmitted history options asked) options.tips

  abbrev pub IsWalkOf : List ObjectId → Type 0
  IsWalkOf = IsWalk (follow history options) (time_of history) options.sorting
      (IsAdmitted history options asked) options.tips

-- the tips, and the parents followed from what is listed
abbrev pub mentioned : History → WalkOptions → List ObjectId → List ObjectId
mentioned history options listed = mentions (follow history options) options.tips listed

-- The filter was asked about each mention that is neither in the boundary nor hidden.
abbrev pub AllAsked : History → WalkOptions → List (ObjectId × Bool) → List ObjectId → Type 0
AllAsked history options asked listed = (id : ObjectId) → has_id (mentioned history options listed) id ≡ true
    → has_id options.boundary id ≡ false → ¬ IsHidden history options id → IsSome (answer_at asked id)

-- The filter was asked about nothing but such mentions.
abbrev pub AskedWithin : History → WalkOptions → List (ObjectId × Bool) → List ObjectId → Type 0
AskedWithin history options asked listed = (id : ObjectId) → IsSome (answer_at asked id)
    → (has_id (mentioned history options listed) id ≡ true) × (has_id options.boundary id ≡ false)
    × (¬ IsHidden history options id)

-- The filter was asked about no id twice.
abbrev pub AskedOnce : List (ObjectId × Bool) → Type 0
AskedOnce asked = (i j : ℕ) (id : ObjectId) (a b : Bool) → slice_get asked i ≡ Some (id, a)
    → slice_get asked j ≡ Some (id, b) → i ≡ j

-- ---- what a call of `next` gives

-- the time in an item: none breadth first
abbrev pub time_told : Sorting → ℤ → Option ℤ
time_told BreadthFirst time = None
time_told (ByCommitTime order) time = Some time
time_told (ByCommitTimeCutoff order seconds) time = Some time

-- The item is the next commit of the walk, with the parents that are followed from it and, by time, its time.
pub record IsNextInfo (history : History) (options : WalkOptions) (asked : List (ObjectId × Bool))
    (listed : List ObjectId) (info : Info) : Type 0 where
  pub next : IsNextOf history options asked listed info.id
  pub all_asked : AllAsked history options asked listed
  pub asked_within : AskedWithin history options asked listed
  pub stored : IsSome (history info.id)
  pub parents : info.parent_ids ≡ follow history options info.id
  pub time : info.commit_time ≡ time_told options.sorting (time_of history info.id)

-- The list is the whole walk, and each object that the walk had to read is a commit: what the hidden ids reach, and
-- each mention that filter and boundary admit.
pub record IsWhole (history : History) (options : WalkOptions) (asked : List (ObjectId × Bool))
    (listed : List ObjectId) : Type 0 where
  pub walk : IsWalkOf history options asked listed
  pub all_asked : AllAsked history options asked listed
  pub asked_within : AskedWithin history options asked listed
  pub hidden_read : (id : ObjectId) → IsHidden history options id → IsSome (history id)
  pub mentions_read : (id : ObjectId) → has_id (mentioned history options listed) id ≡ true
      → has_id options.boundary id ≡ false → ¬ IsHidden history options id → answer_at asked id ≡ Some true
      → IsSome (history id)

-- An error may name an id that the hidden ids reach, or a mention that filter and boundary admit.
abbrev pub IsNamed : History → WalkOptions → List (ObjectId × Bool) → List ObjectId → ObjectId → Type 0
IsNamed history options asked listed id = IsHidden history options id
    ⊎ ((has_id (mentioned history options listed) id ≡ true) × (has_id options.boundary id ≡ false)
    × (answer_at asked id ≡ Some true))

-- The filter was asked about some more ids, none of them asked before, and gave these answers.
pub record Asks {F : Type 0} (gives : F → ObjectId → Bool → F → Type 0) (old new : List (ObjectId × Bool))
    (before after : F) : Type 0 where
  pub more : List (ObjectId × Bool)
  pub asked : new ≡ old ++ more
  pub answers : FoldsTo (λ f p g. gives f p.0 p.1 g) before more after
  pub once : AskedOnce new

module _ {S F : Type 0} (state : S → StoreState) (gives : F → ObjectId → Bool → F → Type 0) where
  -- the state after a call that has listed these ids
  abbrev pub Goes : Walk S F → Walk S F → List ObjectId → Bool → Type 0
  Goes old new listed failed =
      (new ≡ record old { filter = new.filter; listed = listed; asked = new.asked; failed = failed })
      × Asks gives old.asked new.asked old.filter new.filter

  -- A call gives the next commit of the walk, or gives an error and ends the walk, or finds that the whole walk is
  -- listed. After an error nothing more is given.
  abbrev pub Gives : Walk S F → Option (Result Info WalkError) → Walk S F → Type 0
  Gives old (Some (Ok info)) new = (old.failed ≡ false) × Goes old new (old.listed ++ info.id ∷ []) false
      × Told (state old.store) (λ history. IsNextInfo history old.options new.asked old.listed info)
  Gives old (Some (Err e)) new = (old.failed ≡ false) × Goes old new old.listed true
      × CommitCauses (state old.store) (λ id. Told (state old.store) (λ history.
      IsNamed history old.options new.asked old.listed id)) e
  Gives old None new = Goes old new old.listed old.failed
      × (old.failed ≡ false → Told (state old.store) (λ history. IsWhole history old.options new.asked old.listed))

-- a bound of the number of items that are left
abbrev pub items_left : {S F : Type 0} → Walk S F → ℕ
items_left walk = if walk.failed then 0 else 2 ^ 64 - length walk.listed

-- ---- a walk is data

-- a walk is coded by its fields
abbrev pub walk_code : {S F : Type 0} → Coded S → Coded F → Coded (Walk S F)
walk_code {S} {F} store filter =
    code_by (S × (F × (WalkOptions × (List ObjectId × (List (ObjectId × Bool) × Bool)))))
    (coded× store (coded× filter (coded× (walk_options.the_row).coded (coded× (coded_list (object_id.the_row).coded)
    (coded× (coded_list (coded× (object_id.the_row).coded coded_bool)) coded_bool)))))
    (λ w. (w.store, (w.filter, (w.options, (w.listed, (w.asked, w.failed))))))
    (λ p. record {
      store = p.0;
      filter = p.1.0;
      options = p.1.1.0;
      listed = p.1.1.1.0;
      asked = p.1.1.1.1.0;
      failed = p.1.1.1.1.1;
    })
    (λ _. refl)
