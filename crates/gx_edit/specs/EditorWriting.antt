-- What is planned and written of an editor's view, and why it is not.
use Rattle.std.specs.Prelude.{◌≡◌, ◌⊎◌, true, false, List, Option, IfSome}
use Rattle.std.specs.List.{AllByRecursion}
use Rattle.gx_hash.specs.declared.kind.HashKind.{HashKind}
use Rattle.gx_hash.specs.declared.oid.ObjectId.{ObjectId}
use Rattle.gx_rules.specs.declared.component_rules.Protect.{Protect}
use Rattle.gx_object.specs.declared.encode.Field.TheVariants.{FileName}
use Rattle.gx_object.specs.declared.tree.Entry.{Entry}
use Rattle.gx_object.specs.Tree.{is_writable_filename}
use Rattle.gx_store.specs.Content.{AreApart}
use Rattle.gx_store.specs.State.{StoreState}
use Rattle.gx_edit.specs.PathMap.{PathMap}
use Rattle.gx_edit.specs.CanonicalTree.{Directory, StandsFor, Represents, trees_of}
use Rattle.gx_edit.specs.Output.{Output, SomeEntry}
use Rattle.gx_edit.specs.StandsForMap.{StandsForMap}
use Rattle.gx_edit.specs.View.{View, names_of, only}
use Rattle.gx_edit.specs.Writing.{Writes, WriteCauses}
use Rattle.gx_edit.specs.Written.{IsWritten, IsOutputOfView}
use Rattle.gx_edit.specs.declared.error.EditError.{EditError}
use Rattle.gx_edit.specs.declared.error.EditError.TheVariants.{WriteObject, NoMemory}

-- each name in what is written can be spelled by a tree
abbrev pub AreSpelled : Output → Type 0
AreSpelled output = AllByRecursion (λ (entry : Entry). is_writable_filename entry.filename ≡ true) output.entries

-- Why a view is not planned: a name in what is written of it is empty or holds a zero byte, so that no tree can spell
-- it. Out of memory needs no cause.
abbrev pub PlanViewCauses : HashKind → View → EditError → Type 0
PlanViewCauses hash v (WriteObject field) = (field ≡ FileName) × (output : Output) × IsOutputOfView hash v output
    × SomeEntry output (λ entry. is_writable_filename entry.filename ≡ false)
PlanViewCauses hash v NoMemory = Unit {0}
PlanViewCauses hash v _ = ⊥

-- the view has an output with the property
pub record OfViewOutput (v : View) (old : StoreState) (P : Output → Type 0) : Type 0 where
  pub output : Output
  pub is_output : IsOutputOfView old.hash v output
  pub is : P output

-- The view is written: each name in its output can be spelled, and the trees of the output are stored.
abbrev pub WritesView : View → Option Protect → StoreState → ObjectId → StoreState → Type 0
WritesView v protect old id new = OfViewOutput v old (λ output. AreSpelled output × Writes output protect old id new)

-- The root alone is loaded then, with the entries that were written of it.
pub record KeepsRoot (hash : HashKind) (old new : View) : Type 0 where
  pub entries : List Entry
  pub written : IsWritten hash old entries
  pub root : new ≡ only (names_of entries)

-- Where the view stood for a map whose names can be spelled, no two different objects share an id, and none has the
-- null id, the root represents the map in what is stored then.
abbrev pub RepresentsView : View → StoreState → ObjectId → StoreState → Type 0
RepresentsView v old id new = (m : PathMap) (directory : Directory) → StandsFor directory m
    → IfSome old.content (λ before. StandsForMap old.hash before v m
    → AreApart old.hash before (trees_of old.hash directory)
    → IfSome new.content (λ after. Represents old.hash after id m))

-- Why a view is not written, and what that leaves. What can't be planned is refused before anything is written. Where
-- memory runs out, nothing is written, or the first of the trees are.
abbrev pub WriteViewCauses : View → Option Protect → StoreState → StoreState → EditError → Type 0
WriteViewCauses v protect old new (WriteObject field) = PlanViewCauses old.hash v (WriteObject field) × (new ≡ old)
WriteViewCauses v protect old new NoMemory =
    (new ≡ old) ⊎ OfViewOutput v old (λ output. WriteCauses output protect old new NoMemory)
WriteViewCauses v protect old new error = OfViewOutput v old (λ output. WriteCauses output protect old new error)
