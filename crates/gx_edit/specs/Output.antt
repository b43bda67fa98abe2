-- What is to be written: trees that are known before the first of them is stored.
use Rattle.std.specs.Prelude.{◌≡◌, ℕ, true, List, Contains}
use Rattle.gx_hash.specs.declared.kind.HashKind.{HashKind}
use Rattle.gx_hash.specs.declared.oid.ObjectId.{ObjectId}
use Rattle.gx_object.specs.declared.encode.Field.TheVariants.{FileName}
use Rattle.gx_object.specs.declared.kind.Kind.{Kind}
use Rattle.gx_object.specs.declared.tree.Entry.{Entry}
use Rattle.gx_edit.specs.PathMap.{PathMap}
use Rattle.gx_edit.specs.PathList.{PathList, map_of, has_zero}
use Rattle.gx_edit.specs.CanonicalTree.{Directory, StandsFor, trees_of, entries_within, root_of}
use Rattle.gx_edit.specs.declared.error.EditError.{EditError}
use Rattle.gx_edit.specs.declared.error.EditError.TheVariants.{WriteObject, NoMemory}

-- What is to be written, of a path map or of an editor's view: the trees, their entries and the root, known before
-- anything is stored.
pub record Output : Type 0 where
  -- the kind of every id
  pub hash : HashKind
  -- the trees, each after those that its entries name
  pub trees : List (Kind × List ℕ)
  -- the entries of all the trees
  pub entries : List Entry
  pub root : ObjectId

-- the trees of a directory
abbrev pub output_of : HashKind → Directory → Output
output_of hash directory = record {
  hash = hash;
  trees = trees_of hash directory;
  entries = entries_within hash directory;
  root = root_of hash directory;
}

-- The output of a path map is that of its canonical directory.
pub record IsOutputOf (hash : HashKind) (m : PathMap) (output : Output) : Type 0 where
  pub directory : Directory
  pub stands : StandsFor directory m
  pub is : output ≡ output_of hash directory

-- an entry of the trees has the property
pub record SomeEntry (output : Output) (P : Entry → Type 0) : Type 0 where
  pub entry : Entry
  pub among : Contains output.entries entry
  pub is : P entry

-- Why the trees of a path map are not planned: a path holds a zero byte; or none does, so that a canonical directory
-- stands for the map, and memory ran out.
abbrev pub PlanCauses : PathList → EditError → Type 0
PlanCauses paths (WriteObject field) = (field ≡ FileName) × (has_zero paths ≡ true)
PlanCauses paths NoMemory = (directory : Directory) × StandsFor directory (map_of paths)
PlanCauses paths _ = ⊥
