-- The two orders in which the entries at and below a tree are visited.
use Rattle.std.specs.Prelude.{◌≡◌, ◌≢◌, ℕ, List, [], ◌∷◌, ◌++◌, map, Some, Option, IfSome, Contains, if◌then◌else◌, Bool, false}
use Rattle.gx_hash.specs.declared.kind.HashKind.{HashKind}
use Rattle.gx_hash.specs.declared.oid.ObjectId.{ObjectId}
use Rattle.gx_object.specs.declared.kind.Kind.TheVariants as kind
use Rattle.gx_object.specs.declared.tree.Entry.{Entry}
use Rattle.gx_object.specs.Mode.{is_tree_mode}
use Rattle.gx_object.specs.TreeSpelling.{SpellsTree}
use Rattle.gx_store.specs.Content.{Content, lookup}
use Rattle.gx_walk.specs.declared.tree.visit.Action.{Action}
use Rattle.gx_walk.specs.declared.tree.visit.Action.TheVariants.{Continue, Skip, Cancel}
use Rattle.gx_walk.specs.Visits.{TreeVisit, visit_of}

-- Breadth first, a tree is entered after all trees that were visited before it; depth first, right after its own visit.
-- (git-ls-tree(1), "-r" and "-t", lists depth first; breadth first is ours)
pub data Order : Type 0 where
  BreadthFirst : Order
  DepthFirst : Order

-- What a traversal still has to do: visit an entry, or enter a tree. Each task has the ids of the trees that contain
-- the entry or the tree, from the root down, and what stands before the names there: the path of the entry's directory
-- or of the tree itself, followed by a slash, and nothing for the root.
pub data Task : Type 0 where
  Visit : List ObjectId → List ℕ → Entry → Task
  Enter : List ObjectId → List ℕ → ObjectId → Task

-- to visit the entries of a tree, in stored order
abbrev pub visits_of : List ObjectId → List ℕ → List Entry → List Task
visits_of above directory entries = map (Visit above directory) entries

-- An entry is entered if it is a tree and the answer is to go on.
abbrev pub is_entered : Entry → Action → Bool
is_entered entry Continue = is_tree_mode entry.mode.value
is_entered entry Skip = false
is_entered entry Cancel = false

-- the task that follows from a visit
abbrev pub entering : List ObjectId → List ℕ → Entry → Action → List Task
entering above directory entry answer =
    if is_entered entry answer then Enter above (directory ++ entry.filename ++ 47 ∷ []) entry.oid ∷ [] else []

-- a new task comes last or first, by the order
abbrev pub queued : Order → List Task → List Task → List Task
queued BreadthFirst tasks ahead = ahead ++ tasks
queued DepthFirst tasks ahead = tasks ++ ahead

-- the id is that of a tree of these entries, if the store tells its content
abbrev pub IsTreeIn : HashKind → Option Content → ObjectId → List Entry → Type 0
IsTreeIn hash told id entries = IfSome told (λ content. (bytes : List ℕ)
    × (lookup content id ≡ Some (kind.Tree, bytes)) × SpellsTree hash bytes entries)

-- A traversal of a tree with these entries has made these visits and has these tasks left. It begins with the entries
-- of the root. The first task is done next: an entry is visited, or a tree is entered, which no tree of its own id
-- contains, and the visits of its entries take the task's place.
pub data IsTraversal (hash : HashKind) (told : Option Content) (order : Order) (root : ObjectId) (entries : List Entry)
    : List TreeVisit → List Task → Type 0 where
  begun : IsTraversal hash told order root entries [] (visits_of (root ∷ []) [] entries)
  visited : (visits : List TreeVisit) (above : List ObjectId) (directory : List ℕ) (entry : Entry) (ahead : List Task)
      (answer : Action) → IsTraversal hash told order root entries visits (Visit above directory entry ∷ ahead)
      → answer ≢ Cancel
      → IsTraversal hash told order root entries (visits ++ visit_of (directory ++ entry.filename) entry answer ∷ [])
      (queued order (entering above directory entry answer) ahead)
  entered : (visits : List TreeVisit) (above : List ObjectId) (directory : List ℕ) (id : ObjectId) (ahead : List Task)
      (inner : List Entry) → IsTraversal hash told order root entries visits (Enter above directory id ∷ ahead)
      → ¬ Contains above id → IsTreeIn hash told id inner
      → IsTraversal hash told order root entries visits (visits_of (above ++ id ∷ []) directory inner ++ ahead)
