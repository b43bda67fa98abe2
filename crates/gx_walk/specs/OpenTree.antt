-- The trees that a traversal has entered and not left.
use Rattle.std.specs.Prelude.{◌≡◌, ◌≢◌, ℕ, List, [], ◌∷◌, ◌++◌, Some, None, IfSome}
use Rattle.gx_hash.specs.declared.oid.ObjectId.{ObjectId}
use Rattle.gx_object.specs.declared.kind.Kind.{Kind}
use Rattle.gx_object.specs.declared.kind.Kind.TheVariants as kind
use Rattle.gx_object.specs.declared.tree.Entry.{Entry}
use Rattle.gx_object.specs.TreeSpelling.{SpellsTree}
use Rattle.gx_store.specs.Content.{lookup}
use Rattle.gx_store.specs.State.{StoreState, IsUnreadable}
use Rattle.gx_store.specs.declared.error.What.TheVariants as what
use Rattle.gx_walk.specs.declared.error.WalkError.{WalkError}
use Rattle.gx_walk.specs.declared.error.WalkError.TheVariants as walk_error
use Rattle.gx_walk.specs.declared.tree.open_tree.OpenTree.{OpenTree}

-- Why the tree at an id is not entered: it is not stored, is no tree, its bytes spell none, or it can't be read.
abbrev pub OpenCauses : StoreState → ObjectId → WalkError → Type 0
OpenCauses state id walk_error.NoMemory = Unit {0}
OpenCauses state id (walk_error.Store part) = IsUnreadable state (what.Object id) part
OpenCauses state id (walk_error.Missing named) = (named ≡ id)
    × IfSome state.content (λ content. lookup content id ≡ None)
OpenCauses state id (walk_error.NotATree named) = (named ≡ id) × IfSome state.content (λ content.
    (actual : Kind) × (bytes : List ℕ) × (actual ≢ kind.Tree) × (lookup content id ≡ Some (actual, bytes)))
OpenCauses state id (walk_error.Decode named) = (named ≡ id) × IfSome state.content (λ content. (bytes : List ℕ)
    × (lookup content id ≡ Some (kind.Tree, bytes)) × ((entries : List Entry) → ¬ SpellsTree state.hash bytes entries))
OpenCauses state id _ = ⊥

-- the ids from the root down to the tree
abbrev pub above_of : List ObjectId → List OpenTree → OpenTree → List ObjectId
above_of front [] tree = front ++ tree.id ∷ []
above_of front (level ∷ levels) tree = above_of (front ++ level.id ∷ []) levels tree
