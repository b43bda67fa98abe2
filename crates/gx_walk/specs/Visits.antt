-- What a visitor of trees tells and counts.
use Rattle.std.specs.Prelude.{◌≡◌, ℕ, Bool, List, [], ◌∷◌, ◌++◌, Option, option_map}
use Rattle.gx_hash.specs.declared.oid.ObjectId.{ObjectId}
use Rattle.gx_object.specs.declared.tree.EntryMode.{EntryMode}
use Rattle.gx_object.specs.declared.tree.Entry.{Entry}
use Rattle.gx_object.specs.Mode.{is_tree_mode}
use Rattle.gx_store.specs.Faults.{Rose}
use Rattle.gx_walk.specs.declared.tree.visit.Action.{Action}
use Rattle.gx_walk.specs.declared.tree.visit.Action.TheVariants.{Continue, Skip, Cancel}

-- one visit: the entry, with its whole path, and the answer
pub record TreeVisit : Type 0 where
  pub path : List ℕ
  pub mode : EntryMode
  pub id : ObjectId
  pub answer : Action

-- the visit of an entry at a path
abbrev pub visit_of : List ℕ → Entry → Action → TreeVisit
visit_of path entry answer = record { path = path; mode = entry.mode; id = entry.oid; answer = answer }

-- the path ends with the name of the entry
abbrev pub EndsWithName : List ℕ → Entry → Type 0
EndsWithName path entry = (directory : List ℕ) × (path ≡ directory ++ entry.filename)

-- An entry is shown under a path that ends with its name, by the call for trees exactly if it is one.
pub record IsShown (path : List ℕ) (entry : Entry) (as_tree : Bool) : Type 0 where
  pub named : EndsWithName path entry
  pub kind : is_tree_mode entry.mode.value ≡ as_tree

-- The count rises exactly at a `Cancel`. At the last value of u64 it stays.
abbrev pub Counts : Action → ℕ → ℕ → Type 0
Counts Cancel before after = Rose before after
Counts Continue before after = after ≡ before
Counts Skip before after = after ≡ before

-- the visits that were told, and these
abbrev pub with_visits : List TreeVisit → Option (List TreeVisit) → Option (List TreeVisit)
with_visits visits told = option_map (λ before. before ++ visits) told

-- The visit was added to those that are told, and its answer was counted.
pub record Answered (visit : TreeVisit) (old new : Option (List TreeVisit)) (before after : ℕ) : Type 0 where
  pub told : new ≡ with_visits (visit ∷ []) old
  pub count : Counts visit.answer before after
