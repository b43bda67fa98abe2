-- The two orders of a traversal, as the trees lie in each other.
use Rattle.std.specs.Prelude.{◌≡◌, ◌≢◌, ℕ, true, false, List, [], ◌∷◌, ◌++◌, map, Option, Contains}
use Rattle.gx_hash.specs.declared.kind.HashKind.{HashKind}
use Rattle.gx_hash.specs.declared.oid.ObjectId.{ObjectId}
use Rattle.gx_object.specs.declared.tree.Entry.{Entry}
use Rattle.gx_store.specs.Content.{Content}
use Rattle.gx_walk.specs.declared.tree.visit.Action.{Action}
use Rattle.gx_walk.specs.declared.tree.visit.Action.TheVariants.{Continue, Cancel}
use Rattle.gx_walk.specs.Traversal.{is_entered, IsTraversal, IsTreeIn}
use Rattle.gx_walk.specs.Traversal.Order.{BreadthFirst, DepthFirst}
use Rattle.gx_walk.specs.Visits.{TreeVisit, visit_of}

-- The visits at and below some entries of one tree. After an entry that is entered come the visits below it, and then
-- those of the entries after it. The tree and those that contain it have the ids above. The directory is its path,
-- followed by a slash, and nothing for the root. (git-ls-tree(1), "-r")
pub data VisitsNested (hash : HashKind) (told : Option Content)
    : List ObjectId → List ℕ → List Entry → List TreeVisit → Type 0 where
  none : (above : List ObjectId) (directory : List ℕ) → VisitsNested hash told above directory [] []
  passed : (above : List ObjectId) (directory : List ℕ) (entry : Entry) (answer : Action) (rest : List Entry)
      (visits : List TreeVisit) → answer ≢ Cancel → is_entered entry answer ≡ false
      → VisitsNested hash told above directory rest visits
      → VisitsNested hash told above directory (entry ∷ rest)
      (visit_of (directory ++ entry.filename) entry answer ∷ visits)
  entered : (above : List ObjectId) (directory : List ℕ) (entry : Entry) (inner rest : List Entry)
      (below visits : List TreeVisit) → is_entered entry Continue ≡ true → ¬ Contains above entry.oid
      → IsTreeIn hash told entry.oid inner
      → VisitsNested hash told (above ++ entry.oid ∷ []) (directory ++ entry.filename ++ 47 ∷ []) inner below
      → VisitsNested hash told above directory rest visits
      → VisitsNested hash told above directory (entry ∷ rest)
      (visit_of (directory ++ entry.filename) entry Continue ∷ below ++ visits)

-- A whole traversal depth first visits the entries of the root, and below each tree right after it.
abbrev pub DepthFirstIsNested : Type 0
DepthFirstIsNested = (hash : HashKind) (told : Option Content) (root : ObjectId) (entries : List Entry)
    (visits : List TreeVisit) → IsTraversal hash told DepthFirst root entries visits []
    → VisitsNested hash told (root ∷ []) [] entries visits

-- where an entry lies: the ids of the trees that contain it, from the root down, and the path of the innermost,
-- followed by a slash, and nothing for the root
pub record Place : Type 0 where
  pub above : List ObjectId
  pub directory : List ℕ
  pub entry : Entry

-- the places of the entries of a tree
abbrev pub places_of : List ObjectId → List ℕ → List Entry → List Place
places_of above directory entries =
    map (λ entry. record { above = above; directory = directory; entry = entry }) entries

-- the visit of an entry at its place
abbrev pub visit_at : Place → Action → TreeVisit
visit_at place answer = visit_of (place.directory ++ place.entry.filename) place.entry answer

-- The visits of one level, one for each entry in order, and the places of the level below: the entries of the trees
-- that are entered, in the order in which these were visited.
pub data VisitsLevel (hash : HashKind) (told : Option Content)
    : List Place → List TreeVisit → List Place → Type 0 where
  none : VisitsLevel hash told [] [] []
  passed : (place : Place) (answer : Action) (rest : List Place) (visits : List TreeVisit) (below : List Place)
      → answer ≢ Cancel → is_entered place.entry answer ≡ false → VisitsLevel hash told rest visits below
      → VisitsLevel hash told (place ∷ rest) (visit_at place answer ∷ visits) below
  entered : (place : Place) (inner : List Entry) (rest : List Place) (visits : List TreeVisit) (below : List Place)
      → is_entered place.entry Continue ≡ true → ¬ Contains place.above place.entry.oid
      → IsTreeIn hash told place.entry.oid inner → VisitsLevel hash told rest visits below
      → VisitsLevel hash told (place ∷ rest) (visit_at place Continue ∷ visits)
      (places_of (place.above ++ place.entry.oid ∷ [])
      (place.directory ++ place.entry.filename ++ 47 ∷ []) inner ++ below)

-- The visits of a level, and after them those of the levels below.
pub data VisitsLevels (hash : HashKind) (told : Option Content) : List Place → List TreeVisit → Type 0 where
  none : VisitsLevels hash told [] []
  level : (places : List Place) (here : List TreeVisit) (below : List Place) (visits : List TreeVisit)
      → VisitsLevel hash told places here below → VisitsLevels hash told below visits
      → VisitsLevels hash told places (here ++ visits)

-- A whole traversal breadth first visits the entries of the root, and then one level after another.
abbrev pub BreadthFirstIsByLevels : Type 0
BreadthFirstIsByLevels = (hash : HashKind) (told : Option Content) (root : ObjectId) (entries : List Entry)
    (visits : List TreeVisit) → IsTraversal hash told BreadthFirst root entries visits []
    → VisitsLevels hash told (places_of (root ∷ []) [] entries) visits
