-- What holds of every walk.
use Rattle.std.specs.Prelude.{◌≡◌, ◌↔◌, ℕ, ℤ, Bool, true, false, List, [], ◌∷◌, ◌++◌, filter, slice_get, Some}
use Rattle.gx_hash.specs.declared.oid.ObjectId.{ObjectId}
use Rattle.gx_hash.specs.ObjectIds.{has_id}
use Rattle.gx_walk.specs.History.{History, time_of, Reaches}
use Rattle.gx_walk.specs.Walk.{IsInTime, ReachesThrough}
use Rattle.gx_walk.specs.Simple.{follow, answer_at, IsHidden, AllAsked, IsNextOf, BeginsWalkOf, IsWalkOf, IsWhole}
use Rattle.gx_walk.specs.declared.commit.sorting.WalkOptions.{WalkOptions}

module _ (history : History) (options : WalkOptions) (asked : List (ObjectId × Bool)) where
  -- After the same commits one commit is next.
  abbrev pub NextIsUnique : Type 0
  NextIsUnique = (listed : List ObjectId) (x y : ObjectId) → IsNextOf history options asked listed x
      → IsNextOf history options asked listed y → x ≡ y

  -- A walk that begins with some commits begins with them and the next one.
  abbrev pub NextGoesOn : Type 0
  NextGoesOn = (listed : List ObjectId) (x : ObjectId) → BeginsWalkOf history options asked listed
      → IsNextOf history options asked listed x → BeginsWalkOf history options asked (listed ++ x ∷ [])

  -- What a walk begins with is the front of the whole walk, so the whole walk is unique.
  abbrev pub WalkIsUnique : Type 0
  WalkIsUnique = (part whole : List ObjectId) → BeginsWalkOf history options asked part
      → IsWalkOf history options asked whole → (rest : List ObjectId) × (whole ≡ part ++ rest)

  -- A walk lists no commit twice.
  abbrev pub ListsOnce : Type 0
  ListsOnce = (listed : List ObjectId) → BeginsWalkOf history options asked listed
      → (i j : ℕ) (x : ObjectId) → slice_get listed i ≡ Some x → slice_get listed j ≡ Some x → i ≡ j

  -- Later answers of the filter do not change which commit was next, if it had been asked about all that was mentioned.
  abbrev pub LaterAnswersKeep : Type 0
  LaterAnswersKeep = (more : List (ObjectId × Bool)) (listed : List ObjectId) (x : ObjectId)
      → ((id : ObjectId) (answer : Bool) → answer_at asked id ≡ Some answer → answer_at more id ≡ Some answer)
      → AllAsked history options asked listed → IsNextOf history options asked listed x
      → IsNextOf history options more listed x

-- The walk with hidden ids is the walk without them, less what they reach, if the filter answered the same about all
-- other ids.
abbrev pub WithoutHidden : Type 0
WithoutHidden = (history : History) (options : WalkOptions) (asked answers : List (ObjectId × Bool))
    (keep : ObjectId → Bool) (listed : List ObjectId)
    → ((id : ObjectId) → (keep id ≡ false) ↔ IsHidden history options id)
    → ((id : ObjectId) → ¬ IsHidden history options id → answer_at asked id ≡ answer_at answers id)
    → IsWalkOf history (record options { hidden = [] }) answers listed
    → IsWalkOf history options asked (filter keep listed)

-- the filter answers as a test does
abbrev pub AnswersBy : (ObjectId → Bool) → List (ObjectId × Bool) → Type 0
AnswersBy test asked = (id : ObjectId) (answer : Bool) → answer_at asked id ≡ Some answer → answer ≡ test id

-- a commit that a walk with such a filter may list
pub record IsOpen (history : History) (options : WalkOptions) (test : ObjectId → Bool) (id : ObjectId) : Type 0 where
  pub inside : has_id options.boundary id ≡ false
  pub shown : ¬ IsHidden history options id
  pub admitted : test id ≡ true
  pub in_time : IsInTime options.sorting (time_of history id)

-- If the filter answers as a test does, a walk that ended without an error has listed exactly what the tips reach
-- through commits that it may list.
abbrev pub WholeListsOpen : Type 0
WholeListsOpen = (history : History) (options : WalkOptions) (asked : List (ObjectId × Bool)) (listed : List ObjectId)
    (test : ObjectId → Bool)
    → IsWhole history options asked listed → AnswersBy test asked
    → (x : ObjectId)
    → (has_id listed x ≡ true) ↔ ReachesThrough (IsOpen history options test) (follow history options) options.tips x

-- Without a boundary, a cutoff and a filter that refuses anything, it has listed exactly what the tips reach and the
-- hidden ids do not, whatever the times.
abbrev pub WholeListsDifference : Type 0
WholeListsDifference = (history : History) (options : WalkOptions) (asked : List (ObjectId × Bool))
    (listed : List ObjectId)
    → IsWhole history options asked listed → AnswersBy (λ _. true) asked → options.boundary ≡ []
    → ((time : ℤ) → IsInTime options.sorting time) → (x : ObjectId)
    → (has_id listed x ≡ true) ↔ (Reaches (follow history options) options.tips x × ¬ IsHidden history options x)
