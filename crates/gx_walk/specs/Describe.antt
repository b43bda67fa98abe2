-- The nearest name of a commit. (git-describe(1), "SEARCH STRATEGY")
use Rattle.std.specs.Prelude.{◌≡◌, ◌↔◌, ℕ, ◌≤◌, ◌<◌, ℤ, Bool, true, List, [], ◌∷◌, length, take, filter, slice_get, Option, Some, None, IsSome, if◌then◌else◌}
use Rattle.std.specs.List.{IsDistinct}
use Rattle.std.specs.Option.{is_some}
use Rattle.gx_hash.specs.ObjectIds.{id_eq, has_id}
use Rattle.gx_hash.specs.declared.oid.ObjectId.{ObjectId}
use Rattle.gx_store.specs.State.{StoreState}
use Rattle.gx_walk.specs.History.{History, Told, time_of, followed, Reaches}
use Rattle.gx_walk.specs.NameMap.{name_of}
use Rattle.gx_walk.specs.Walk.{BeginsWalk, IsExhausted}
use Rattle.gx_walk.specs.declared.commit.sorting.CommitTimeOrder.TheVariants.{NewestFirst}
use Rattle.gx_walk.specs.declared.commit.sorting.Parents.{Parents}
use Rattle.gx_walk.specs.declared.commit.sorting.Parents.TheVariants.{All, First}
use Rattle.gx_walk.specs.declared.commit.sorting.Sorting.TheVariants.{ByCommitTime}
use Rattle.gx_walk.specs.declared.describe.name_map.NameMap.{NameMap}
use Rattle.gx_walk.specs.declared.describe.Options.{Options}
use Rattle.gx_walk.specs.declared.describe.Outcome.{Outcome}

-- the parents that are followed: the first alone, if that is asked (git-describe(1), "--first-parent")
abbrev pub parents_by : Bool → Parents
parents_by first_parent = if first_parent then First else All

-- Exactly this many commits have the property.
pub record HasSize (Within : ObjectId → Type 0) (size : ℕ) : Type 0 where
  pub ids : List ObjectId
  pub distinct : IsDistinct id_eq ids
  pub exact : (x : ObjectId) → (has_id ids x ≡ true) ↔ Within x
  pub long : length ids ≡ size

module _ (follow : ObjectId → List ObjectId) (id : ObjectId) where
  -- a commit that the id reaches and the candidate does not (git-describe(1): `git log candidate..id` shows it)
  abbrev pub IsBeyond : ObjectId → ObjectId → Type 0
  IsBeyond candidate x = Reaches follow (id ∷ []) x × ¬ Reaches follow (candidate ∷ []) x

  -- The depth of the id below a candidate is the number of these commits.
  abbrev pub HasDepth : ObjectId → ℕ → Type 0
  HasDepth candidate depth = HasSize (IsBeyond candidate) depth

  -- The nearest candidate is one of the least depth, and the first of them. (git-describe(1), whose text does not say
  -- that it is the first)
  pub record IsNearest (among : List ObjectId) (nearest : ObjectId) (depth : ℕ) : Type 0 where
    pub place : ℕ
    pub here : slice_get among place ≡ Some nearest
    pub depth_is : HasDepth nearest depth
    pub least : (j : ℕ) (other : ObjectId) (far : ℕ) → slice_get among j ≡ Some other → HasDepth other far
        → depth ≤ far
    pub first : (j : ℕ) (other : ObjectId) (far : ℕ) → j < place → slice_get among j ≡ Some other
        → HasDepth other far → depth < far

-- whether a commit has a name
abbrev pub is_named : NameMap → ObjectId → Bool
is_named names id = is_some (name_of names id)

module _ (follow : ObjectId → List ObjectId) (time : ObjectId → ℤ) (id : ObjectId) where
  -- the walk from the id, newest first, begins with these commits
  abbrev pub BeginsSearch : List ObjectId → Type 0
  BeginsSearch = BeginsWalk follow time (ByCommitTime NewestFirst) (λ _. Unit {0}) (id ∷ [])

  -- and no commit is left to that walk
  abbrev pub EndsSearch : List ObjectId → Type 0
  EndsSearch = IsExhausted follow time (ByCommitTime NewestFirst) (λ _. Unit {0}) (id ∷ [])

  -- The candidates are the first named commits of that walk, at most so many. There are fewer only if the walk has no
  -- more.
  -- (git-describe(1), "--candidates")
  pub record AreCandidates (names : NameMap) (most : ℕ) (among : List ObjectId) : Type 0 where
    pub walk : List ObjectId
    pub begins : BeginsSearch walk
    pub first : among ≡ take most (filter (is_named names) walk)
    pub whole : length among < most → EndsSearch walk

-- the bare id, if it was asked for (git-describe(1), "--always")
abbrev pub bare : Bool → ObjectId → Option Outcome
bare fallback id = if fallback then Some (record { name = None; id = id; depth = 0 }) else None

-- The answer has the name of the nearest candidate; without one it is the bare id or nothing.
abbrev pub IsByNearest : (ObjectId → List ObjectId) → Options → ObjectId → List ObjectId → Option Outcome → Type 0
IsByNearest follow options id [] answer = answer ≡ bare options.fallback id
IsByNearest follow options id (candidate ∷ others) answer = (nearest : ObjectId) × (depth : ℕ)
    × IsNearest follow id (candidate ∷ others) nearest depth
    × (answer ≡ Some (record { name = name_of options.names nearest; id = id; depth = depth }))

-- The answer is by the nearest of the candidates.
abbrev pub IsByCandidates : (ObjectId → List ObjectId) → (ObjectId → ℤ) → Options → ObjectId → Option Outcome → Type 0
IsByCandidates follow time options id answer = (among : List ObjectId)
    × AreCandidates follow time id options.names options.max_candidates among
    × IsByNearest follow options id among answer

-- A commit that has a name is described by it, another by the nearest candidate.
abbrev pub IsByName : (ObjectId → List ObjectId) → (ObjectId → ℤ) → Options → ObjectId → Option (List ℕ)
    → Option Outcome → Type 0
IsByName follow time options id (Some own) answer = answer ≡ Some (record { name = Some own; id = id; depth = 0 })
IsByName follow time options id None answer = IsByCandidates follow time options id answer

-- the parents that a search follows
abbrev pub followed_by : History → Options → (ObjectId → Bool) → ObjectId → List ObjectId
followed_by history options is_shallow = followed history (parents_by options.first_parent) is_shallow

-- The description of a commit, in a history in which shallow commits have no parents. (git-describe(1))
abbrev pub IsDescription : History → (ObjectId → Bool) → Options → ObjectId → Option Outcome → Type 0
IsDescription history is_shallow options id answer =
    IsByName (followed_by history options is_shallow) (time_of history) options id (name_of options.names id) answer

-- An error may name what the commit reaches, and the commit alone if it has a name or no candidate is asked for.
pub record IsReadForDescription (state : StoreState) (is_shallow : ObjectId → Bool) (options : Options)
    (id one : ObjectId) : Type 0 where
  pub own : IsSome (name_of options.names id) → one ≡ id
  pub none : options.max_candidates ≡ 0 → one ≡ id
  pub reached : Told state (λ history. Reaches (followed_by history options is_shallow) (id ∷ []) one)
