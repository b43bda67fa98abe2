-- Where a traversal ends, and why.
use Rattle.std.specs.Prelude.{◌≡◌, ◌⊎◌, ℕ, List, [], ◌∷◌, ◌++◌, Option, Contains}
use Rattle.gx_hash.specs.declared.oid.ObjectId.{ObjectId}
use Rattle.gx_object.specs.declared.tree.Entry.{Entry}
use Rattle.gx_object.specs.TreeSpelling.{SpellsTree}
use Rattle.gx_store.specs.Faults.{Rose}
use Rattle.gx_store.specs.State.{StoreState}
use Rattle.gx_walk.specs.declared.error.WalkError.{WalkError}
use Rattle.gx_walk.specs.declared.error.WalkError.TheVariants as walk_error
use Rattle.gx_walk.specs.declared.tree.visit.Action.TheVariants.{Cancel}
use Rattle.gx_walk.specs.Visits.{TreeVisit, visit_of, with_visits}
use Rattle.gx_walk.specs.Traversal.{Order, Task, IsTraversal}
use Rattle.gx_walk.specs.Traversal.Task.{Visit, Enter}
use Rattle.gx_walk.specs.OpenTree.{OpenCauses}

-- A traversal of the tree with these bytes has these tasks left. The visitor was shown the traversal's visits so far,
-- and then these.
pub record HasCome (state : StoreState) (order : Order) (root : ObjectId) (bytes : List ℕ)
    (old new : Option (List TreeVisit)) (last : List TreeVisit) (ahead : List Task) : Type 0 where
  pub entries : List Entry
  pub visits : List TreeVisit
  pub root_is : SpellsTree state.hash bytes entries
  pub made : IsTraversal state.hash state.content order root entries visits ahead
  pub told : new ≡ with_visits (visits ++ last) old

-- All visits were made, in this order, and no others.
abbrev pub IsWhole : StoreState → Order → ObjectId → List ℕ → Option (List TreeVisit) → Option (List TreeVisit)
    → Type 0
IsWhole state order root bytes old new = HasCome state order root bytes old new [] []

-- the next task is to enter this tree
pub record IsAtTree (state : StoreState) (order : Order) (root : ObjectId) (bytes : List ℕ)
    (old new : Option (List TreeVisit)) (id : ObjectId) : Type 0 where
  pub above : List ObjectId
  pub directory : List ℕ
  pub ahead : List Task
  pub come : HasCome state order root bytes old new [] (Enter above directory id ∷ ahead)

-- the next task was to visit an entry, and the answer was `Cancel`
pub record IsCancelled (state : StoreState) (order : Order) (root : ObjectId) (bytes : List ℕ)
    (old new : Option (List TreeVisit)) : Type 0 where
  pub above : List ObjectId
  pub directory : List ℕ
  pub entry : Entry
  pub ahead : List Task
  pub come : HasCome state order root bytes old new (visit_of (directory ++ entry.filename) entry Cancel ∷ [])
      (Visit above directory entry ∷ ahead)

-- the bytes of the root spell no tree, and nothing was visited
pub record IsNoRoot (state : StoreState) (root : ObjectId) (bytes : List ℕ) (old new : Option (List TreeVisit))
    (id : ObjectId) : Type 0 where
  pub id_is : id ≡ root
  pub bad : (entries : List Entry) → ¬ SpellsTree state.hash bytes entries
  pub told : new ≡ old

-- Why a traversal ends early: the bytes of the root spell no tree, the tree to be entered next contains itself or is
-- not opened, the visitor answered `Cancel`, or memory ran out. The visitor has been shown all entries before that, and
-- but for `Cancelled` it has not answered `Cancel`.
abbrev pub TraversalCauses : StoreState → Order → ObjectId → List ℕ → Option (List TreeVisit)
    → Option (List TreeVisit) → ℕ → ℕ → WalkError → Type 0
TraversalCauses state order root bytes old new before after walk_error.NoMemory = (after ≡ before)
    × ((new ≡ old) ⊎ ((ahead : List Task) × HasCome state order root bytes old new [] ahead))
TraversalCauses state order root bytes old new before after walk_error.Cancelled = Rose before after
    × IsCancelled state order root bytes old new
TraversalCauses state order root bytes old new before after (walk_error.TreeCycle id) = (after ≡ before)
    × (s : IsAtTree state order root bytes old new id) × Contains s.above id
TraversalCauses state order root bytes old new before after (walk_error.Decode id) = (after ≡ before)
    × (IsNoRoot state root bytes old new id
    ⊎ (IsAtTree state order root bytes old new id × OpenCauses state id (walk_error.Decode id)))
TraversalCauses state order root bytes old new before after (walk_error.Missing id) = (after ≡ before)
    × IsAtTree state order root bytes old new id × OpenCauses state id (walk_error.Missing id)
TraversalCauses state order root bytes old new before after (walk_error.NotATree id) = (after ≡ before)
    × IsAtTree state order root bytes old new id × OpenCauses state id (walk_error.NotATree id)
TraversalCauses state order root bytes old new before after (walk_error.Store part) = (after ≡ before)
    × (id : ObjectId) × IsAtTree state order root bytes old new id × OpenCauses state id (walk_error.Store part)
TraversalCauses state order root bytes old new before after (walk_error.NotACommit id) = ⊥
