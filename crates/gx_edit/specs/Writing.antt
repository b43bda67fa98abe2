-- What it means that trees are written, and why they are not.
use Rattle.std.specs.Prelude.{◌≡◌, ◌≢◌, ℕ, List, [], ◌++◌, Option, IfSome, IsSome, IsSomeAnd, IsTrue}
use Rattle.std.specs.List.{AllByRecursion}
use Rattle.gx_hash.specs.declared.oid.ObjectId.{ObjectId}
use Rattle.gx_rules.specs.Component.{IsFirstViolated}
use Rattle.gx_rules.specs.declared.component_rules.Protect.{Protect}
use Rattle.gx_object.specs.declared.kind.Kind.{Kind}
use Rattle.gx_object.specs.declared.tree.EntryKind.TheVariants as entry_kind
use Rattle.gx_object.specs.Mode.{kind_of_mode}
use Rattle.gx_store.specs.Content.{IsStored, AreApart}
use Rattle.gx_store.specs.Faults.{Rose}
use Rattle.gx_store.specs.State.{StoreState, Becomes, all_stored}
use Rattle.gx_store.specs.declared.error.What.{What}
use Rattle.gx_store.specs.declared.error.What.TheVariants as what
use Rattle.gx_edit.specs.Entries.{is_link, IsSafe, IsComplete, IsEntry}
use Rattle.gx_edit.specs.Output.{Output, IsOutputOf, SomeEntry, PlanCauses}
use Rattle.gx_edit.specs.PathMap.{PathMap}
use Rattle.gx_edit.specs.PathList.{PathList, map_of}
use Rattle.gx_edit.specs.CanonicalTree.{Directory, StandsFor, Represents, trees_of}
use Rattle.gx_edit.specs.declared.error.EditError.{EditError}
use Rattle.gx_edit.specs.declared.error.EditError.TheVariants.{InvalidFilename, MissingObject, WriteObject, Store, NoMemory}

-- Each entry passes the protections.
abbrev pub AreSafe : Option Protect → Output → Type 0
AreSafe protect output = AllByRecursion (IsSafe protect) output.entries

-- ---- what a call leaves

-- The trees were stored where they were absent, in their order, the answer is the root, and nothing else is changed.
-- With protections, each entry passes them and names what is stored.
pub record Writes (output : Output) (protect : Option Protect) (old : StoreState) (id : ObjectId)
    (new : StoreState) : Type 0 where
  pub is_root : id ≡ output.root
  pub becomes : Becomes (all_stored output.trees old) new
  pub safe : AreSafe protect output
  pub complete : IsSome protect → AllByRecursion (IsComplete new) output.entries

-- All trees were stored, each where it was absent, and nothing else is changed. Each entry passes the protections.
pub record StoresTrees (output : Output) (protect : Option Protect) (old new : StoreState) : Type 0 where
  pub becomes : Becomes (all_stored output.trees old) new
  pub safe : AreSafe protect output

-- The first of the trees were stored, and nothing else is changed. Where that is one tree or more, each entry of all
-- the trees passes the protections.
pub record BeginsTrees (output : Output) (protect : Option Protect) (old new : StoreState) : Type 0 where
  pub first : List (Kind × List ℕ)
  pub rest : List (Kind × List ℕ)
  pub split : output.trees ≡ first ++ rest
  pub becomes : Becomes (all_stored first old) new
  pub safe : first ≢ [] → AreSafe protect output

-- The same, but at least one of the trees is still to be stored. Each entry of all the trees passes the protections.
pub record StopsInTrees (output : Output) (protect : Option Protect) (old new : StoreState) : Type 0 where
  pub begun : BeginsTrees output protect old new
  pub left : begun.rest ≢ []
  pub safe : AreSafe protect output

-- ---- causes

-- A store's fault names an object of an entry, no submodule, that was looked for once the trees were stored, or comes
-- of the write of a tree.
abbrev pub HasFault : Output → Option Protect → StoreState → StoreState → What → Type 0
HasFault output protect old new (what.Object id) = IsSome protect × StoresTrees output protect old new
    × IsTrue (old.unreadable (what.Object id))
    × SomeEntry output (λ entry. (entry.oid ≡ id) × (kind_of_mode entry.mode.value ≢ entry_kind.Commit))
HasFault output protect old new (what.Name name) = ⊥
HasFault output protect old new what.Index = ⊥
HasFault output protect old new what.Listing = ⊥
HasFault output protect old new what.Write = StopsInTrees output protect old new × Rose old.faults new.faults

-- Why trees are not written, and what that leaves. A name that fails the protections is refused before anything is
-- written. That an entry, no submodule, names nothing is seen once all trees are stored, since it may name one of them.
-- Out of memory needs no cause.
abbrev pub WriteCauses : Output → Option Protect → StoreState → StoreState → EditError → Type 0
WriteCauses output protect old new (InvalidFilename filename kind id source) =
    (new ≡ old) × SomeEntry output (λ entry. IsEntry entry filename kind id
    × IsSomeAnd protect (λ p. IsFirstViolated entry.filename (is_link entry) p source))
WriteCauses output protect old new (MissingObject filename kind id) =
    IsSome protect × StoresTrees output protect old new
    × SomeEntry output (λ entry. IsEntry entry filename kind id × (kind ≢ entry_kind.Commit)
    × IfSome new.content (λ content. IsStored content id → ⊥))
WriteCauses output protect old new (Store fault) = HasFault output protect old new fault
WriteCauses output protect old new NoMemory = BeginsTrees output protect old new
WriteCauses output protect old new _ = ⊥

-- ---- path maps

-- the map has an output with the property
pub record OfOutput (paths : PathList) (old : StoreState) (P : Output → Type 0) : Type 0 where
  pub output : Output
  pub is_output : IsOutputOf old.hash (map_of paths) output
  pub is : P output

-- The map is written: the trees of its canonical directory are.
abbrev pub WritesMap : PathList → Option Protect → StoreState → ObjectId → StoreState → Type 0
WritesMap paths protect old id new = OfOutput paths old (λ output. Writes output protect old id new)

-- Where no two different objects share an id, and none has the null id, the root represents the map in what is then
-- stored with the trees.
abbrev pub RepresentsMap : PathMap → StoreState → ObjectId → StoreState → Type 0
RepresentsMap m old id new = (directory : Directory) → StandsFor directory m
    → IfSome old.content (λ before. AreApart old.hash before (trees_of old.hash directory)
    → IfSome new.content (λ after. Represents old.hash after id m))

-- Why a map is not written, and what that leaves. A path with a zero byte is refused first, before anything is
-- written or looked for.
abbrev pub WriteMapCauses : PathList → Option Protect → StoreState → StoreState → EditError → Type 0
WriteMapCauses paths protect old new (WriteObject field) = PlanCauses paths (WriteObject field) × (new ≡ old)
WriteMapCauses paths protect old new error = OfOutput paths old (λ output. WriteCauses output protect old new error)
