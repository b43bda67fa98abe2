-- How a search for the nearest name goes.
use Rattle.std.specs.Prelude.{◌≡◌, ◌↔◌, true, List, [], ◌∷◌, Option, Some, None}
use Rattle.gx_hash.specs.declared.oid.ObjectId.{ObjectId}
use Rattle.gx_store.specs.State.{StoreState}
use Rattle.gx_hash.specs.ObjectIds.{has_id}
use Rattle.gx_walk.specs.History.{History, Told, followed, Reaches}
use Rattle.gx_walk.specs.Describe.{HasDepth, IsBeyond, IsNearest}
use Rattle.gx_walk.specs.Simple.{plain_options}
use Rattle.gx_walk.specs.declared.commit.sorting.WalkOptions.{WalkOptions}
use Rattle.gx_walk.specs.declared.describe.search.Nearest.{Nearest}
use Rattle.gx_walk.specs.declared.describe.search.Search.{Search}

-- the walk from the id that is described
abbrev pub search_options : Search → WalkOptions
search_options search = record (plain_options (search.id ∷ [])) { parents = search.parents; shallow = search.shallow }

-- the parents that a search follows
abbrev pub follow : History → Search → ObjectId → List ObjectId
follow history search = followed history search.parents (has_id search.shallow)

-- what the id reaches
abbrev pub IsReached : History → Search → ObjectId → Type 0
IsReached history search = Reaches (follow history search) (search.id ∷ [])

-- a fact of the history that holds where the id reaches these commits
abbrev pub IfReached : StoreState → Search → List ObjectId → (History → Type 0) → Type 0
IfReached state search candidates P = Told state (λ history.
    ((x : ObjectId) → has_id candidates x ≡ true → IsReached history search x) → P history)

-- how deep the id is below a candidate, and the commits that it reaches and the candidate does not
pub record IsMeasured (history : History) (search : Search) (nearest : Nearest) : Type 0 where
  pub depth : HasDepth (follow history search) search.id nearest.id nearest.depth
  pub beyond : (x : ObjectId)
      → (has_id nearest.beyond x ≡ true) ↔ IsBeyond (follow history search) search.id nearest.id x

-- the nearest of some candidates, measured
pub record IsNearestOf (history : History) (search : Search) (candidates : List ObjectId) (found : Nearest)
    : Type 0 where
  pub measured : IsMeasured history search found
  pub nearest : IsNearest (follow history search) search.id candidates found.id found.depth

-- the nearest of some candidates, or nothing where there is none
abbrev pub IsFound : History → Search → List ObjectId → Option Nearest → Type 0
IsFound history search candidates None = candidates ≡ []
IsFound history search candidates (Some nearest) = IsNearestOf history search candidates nearest
