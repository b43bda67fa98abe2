-- Merge bases: the best common ancestors of a commit and some others.
use Rattle.std.specs.Prelude.{◌≡◌, ◌≢◌, ◌⊎◌, ◌↔◌, ℕ, ◌<◌, ℤ, ◌<ℤ◌, Bool, true, List, [], ◌∷◌, slice_get, Option, Some, None, MatchOption}
use Rattle.std.specs.declared.cmp.Ordering.TheVariants.{Less}
use Rattle.gx_hash.specs.ObjectId.{id_cmp}
use Rattle.gx_hash.specs.ObjectIds.{has_id}
use Rattle.gx_hash.specs.declared.oid.ObjectId.{ObjectId}
use Rattle.gx_store.specs.State.{StoreState}
use Rattle.gx_walk.specs.History.{History, Told, Reaches, followed, time_of}
use Rattle.gx_walk.specs.declared.commit.sorting.Parents.TheVariants.{All}

module _ (follow : ObjectId → List ObjectId) (one : ObjectId) (others : List ObjectId) where
  -- A common ancestor is reached by the commit and by one of the others; each commit reaches itself. Several others
  -- count as one commit that has them as parents. (git-merge-base(1))
  pub record IsCommonAncestor (x : ObjectId) : Type 0 where
    pub of_one : Reaches follow (one ∷ []) x
    pub of_others : Reaches follow others x

  -- A merge base is a common ancestor that no other common ancestor reaches. (git-merge-base(1))
  pub record IsBase (x : ObjectId) : Type 0 where
    pub common : IsCommonAncestor x
    pub best : (y : ObjectId) → IsCommonAncestor y → Reaches follow (y ∷ []) x → y ≡ x

-- A commit x of time t stands before a commit y of time u: the newer first, of equal times the lower id. (Git lists the
-- newest first; the rule for equal times is ours)
abbrev pub StandsBefore : ℤ → ObjectId → ℤ → ObjectId → Type 0
StandsBefore t x u y = (u <ℤ t) ⊎ ((t ≡ u) × (id_cmp x y ≡ Less))

-- the parents of a commit, of which a shallow one has none
abbrev pub shown_parents : History → List ObjectId → ObjectId → List ObjectId
shown_parents history shallow = followed history All (has_id shallow)

-- The list has exactly the merge bases, in their order, and so each once. (git-merge-base(1), "--all")
pub record IsBaseList (history : History) (shallow : List ObjectId) (one : ObjectId) (others bases : List ObjectId)
    : Type 0 where
  pub exact : (x : ObjectId) → (has_id bases x ≡ true) ↔ IsBase (shown_parents history shallow) one others x
  pub ordered : (i j : ℕ) (x y : ObjectId) → i < j → slice_get bases i ≡ Some x → slice_get bases j ≡ Some y
      → StandsBefore (time_of history x) x (time_of history y) y

-- there are no others, or the commit is one of them
abbrev pub IsAlone : ObjectId → List ObjectId → Type 0
IsAlone one others = (others ≡ []) ⊎ (has_id others one ≡ true)

-- What is answered is the commit itself, if it is alone, and else its merge bases with the others.
-- (gix, `merge_base` of gix-revision)
pub record AreBases (history : History) (shallow : List ObjectId) (one : ObjectId) (others bases : List ObjectId)
    : Type 0 where
  pub alone : IsAlone one others → bases ≡ one ∷ []
  pub listed : ¬ IsAlone one others → IsBaseList history shallow one others bases

-- an error may name what the commits reach, if they have to be read
pub record IsReadForBases (state : StoreState) (shallow : List ObjectId) (one : ObjectId) (others : List ObjectId)
    (id : ObjectId) : Type 0 where
  pub asked : ¬ IsAlone one others
  pub reached : Told state (λ history. Reaches (shown_parents history shallow) (one ∷ others) id)

-- The octopus base is the commit itself without others. Else it is that of the first base with the first other, and of
-- the others after it; there is none, if there is no such base. (gix, `octopus` of gix-revision)
abbrev pub IsOctopus : History → List ObjectId → ObjectId → List ObjectId → Option ObjectId → Type 0
IsOctopus history shallow one [] found = found ≡ Some one
IsOctopus history shallow one (other ∷ others) found = (bases : List ObjectId)
    × AreBases history shallow one (other ∷ []) bases
    × MatchOption (slice_get bases 0) (found ≡ None) (λ base. IsOctopus history shallow base others found)

-- an error may name what the commits reach, if some other is not the commit itself
pub record IsReadForOctopus (state : StoreState) (shallow : List ObjectId) (one : ObjectId) (others : List ObjectId)
    (id : ObjectId) : Type 0 where
  pub other : ObjectId
  pub among : has_id others other ≡ true
  pub apart : other ≢ one
  pub reached : Told state (λ history. Reaches (shown_parents history shallow) (one ∷ others) id)
