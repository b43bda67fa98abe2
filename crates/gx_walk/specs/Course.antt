-- The progress of a walk.
use Rattle.std.specs.Prelude.{◌≡◌, ◌↔◌, ℕ, true, List, [], ◌∷◌, ◌++◌, take, slice_get, Option, Some, None, IsSome, MatchBool}
use Rattle.gx_hash.specs.declared.oid.ObjectId.{ObjectId}
use Rattle.gx_hash.specs.ObjectIds.{has_id}
use Rattle.gx_store.specs.State.{StoreState}
use Rattle.gx_walk.specs.History.{History, Told}
use Rattle.gx_walk.specs.Simple.{IsHidden, BeginsWalkOf, mentioned}
use Rattle.gx_walk.specs.Frontier.{IsEmpty, is_excluded, IsFrontier}
use Rattle.gx_walk.specs.declared.commit.course.Course.{Course}
use Rattle.gx_walk.specs.declared.commit.frontier.Sets.{Sets}
use Rattle.gx_walk.specs.declared.commit.info.Info.{Info}
use Rattle.gx_walk.specs.declared.commit.sorting.WalkOptions.{WalkOptions}

-- the id of what was found
abbrev pub found_id : Option Info → List ObjectId
found_id None = []
found_id (Some info) = info.id ∷ []

-- the sets are those that the options name, and what the hidden ids reach
pub record AreSets (history : History) (options : WalkOptions) (sets : Sets) : Type 0 where
  pub shallow : (id : ObjectId) → has_id sets.shallow id ≡ has_id options.shallow id
  pub boundary : (id : ObjectId) → has_id sets.boundary id ≡ has_id options.boundary id
  pub hidden : (id : ObjectId) → (has_id sets.hidden id ≡ true) ↔ IsHidden history options id
  pub hidden_read : (id : ObjectId) → IsHidden history options id → IsSome (history id)

-- the walk has not begun
pub record IsFresh (course : Course) : Type 0 where
  pub frontier : IsEmpty course.frontier
  pub listed : course.listed.items ≡ []

-- what is pending is still to be mentioned, and all before it is in the frontier
pub record IsUnderWay (history : History) (options : WalkOptions) (course : Course) : Type 0 where
  pub sets : AreSets history options course.sets
  pub before : List ObjectId
  pub all : mentioned history options course.listed.items ≡ before ++ course.pending
  pub front : (i : ℕ) (x y : ObjectId) → slice_get course.listed.items i ≡ Some x
      → has_id (mentioned history options (take i course.listed.items)) y ≡ true → has_id before y ≡ true
  pub frontier : IsFrontier history options.sorting (is_excluded course.sets) before course.listed.items course.frontier
  pub stored : (id : ObjectId) → has_id course.listed.items id ≡ true → IsSome (history id)
  pub begins : BeginsWalkOf history options course.frontier.asked.items course.listed.items

-- the walk has begun and is as it has to be then, or it has not begun
abbrev pub IsAt : History → WalkOptions → Course → Type 0
IsAt history options course = MatchBool course.begun (IsUnderWay history options course) (IsFresh course)

-- a fact of the history that holds where the walk was under way
abbrev pub IfUnderWay : StoreState → WalkOptions → Course → (History → Type 0) → Type 0
IfUnderWay state options course P = Told state (λ history. IsUnderWay history options course → P history)

-- a fact of the history that holds where the walk was under way, or had not begun
abbrev pub IfAt : StoreState → WalkOptions → Course → (History → Type 0) → Type 0
IfAt state options course P = Told state (λ history. IsAt history options course → P history)
