-- The trees of a traversal that goes breadth first.
use Rattle.std.specs.Prelude.{◌≡◌, ℕ, List, [], ◌∷◌, ◌++◌, Contains}
use Rattle.gx_hash.specs.declared.oid.ObjectId.{ObjectId}
use Rattle.gx_store.specs.State.{StoreState}
use Rattle.gx_walk.specs.Traversal.{IsTreeIn}
use Rattle.gx_walk.specs.OpenTree.{OpenCauses}
use Rattle.gx_walk.specs.declared.error.WalkError.{WalkError}
use Rattle.gx_walk.specs.declared.error.WalkError.TheVariants as walk_error
use Rattle.gx_walk.specs.declared.tree.breadth.Waiting.{Waiting}
use Rattle.gx_walk.specs.declared.tree.breadth.Entered.{Entered}

-- the tree waits with these ids above it and at this path
pub record Waits (above : List ObjectId) (path : List ℕ) (id : ObjectId) (waiting : Waiting) : Type 0 where
  pub above_is : waiting.above.items ≡ above
  pub path_is : waiting.path.items ≡ path
  pub id_is : waiting.id ≡ id

-- a tree that waited is entered
pub record HasEntered (state : StoreState) (waiting : Waiting) (tree : Entered) : Type 0 where
  pub apart : ¬ Contains waiting.above.items waiting.id
  pub stored : IsTreeIn state.hash state.content waiting.id tree.entries.items
  pub above_is : tree.above.items ≡ waiting.above.items ++ waiting.id ∷ []
  pub path_is : tree.path.items ≡ waiting.path.items
  pub place_is : tree.place ≡ 0

-- Why a tree is not entered: a tree of its own id contains it, or it is not opened.
abbrev pub EnterCauses : StoreState → Waiting → WalkError → Type 0
EnterCauses state waiting (walk_error.TreeCycle id) = (id ≡ waiting.id) × Contains waiting.above.items waiting.id
EnterCauses state waiting walk_error.NoMemory = Unit {0}
EnterCauses state waiting walk_error.Cancelled = ⊥
EnterCauses state waiting (walk_error.NotACommit id) = ⊥
EnterCauses state waiting (walk_error.Store part) = OpenCauses state waiting.id (walk_error.Store part)
EnterCauses state waiting (walk_error.Missing id) = OpenCauses state waiting.id (walk_error.Missing id)
EnterCauses state waiting (walk_error.NotATree id) = OpenCauses state waiting.id (walk_error.NotATree id)
EnterCauses state waiting (walk_error.Decode id) = OpenCauses state waiting.id (walk_error.Decode id)
