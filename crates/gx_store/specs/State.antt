-- The state of a store, whichever way it is kept.
use Rattle.std.specs.Prelude.{◌≡◌, ◌≤◌, ℕ, Bool, List, Option, option_map, IsTrue, Result, IfErr}
use Rattle.std.specs.FinMap.{FinMap}
use Rattle.gx_hash.specs.declared.kind.HashKind.{HashKind}
use Rattle.gx_hash.specs.declared.oid.ObjectId.{ObjectId}
use Rattle.gx_object.specs.declared.kind.Kind.{Kind}
use Rattle.gx_rules.specs.Name.{name_cmp}
use Rattle.gx_store.specs.Content.{Content, with_object, with_objects}
use Rattle.gx_store.specs.Faults.{Rose}
use Rattle.gx_store.specs.declared.target.Target.{Target}
use Rattle.gx_store.specs.declared.log_line.LogLine.{LogLine}
use Rattle.gx_store.specs.declared.error.What.{What}
use Rattle.gx_store.specs.declared.error.What.TheVariants as what
use Rattle.gx_store.specs.declared.error.StoreError.{StoreError}
use Rattle.gx_store.specs.declared.error.StoreError.TheVariants as store_error

-- References are a map from names to targets; each may have a log, and a log may be there without its reference.
-- (gitglossary, "ref" and "reflog"; gitrepository-layout, "logs")
pub record RefState : Type 0 where
  pub targets : FinMap name_cmp Target
  -- the oldest line first
  pub logs : FinMap name_cmp (List LogLine)

-- The whole state of a store. (gitrepository-layout: objects, refs, logs)
pub record StoreState : Type 0 where
  -- the kind of every id
  pub hash : HashKind
  -- what is stored, where that is told
  pub content : Option Content
  -- the references and their logs, where they are told
  pub references : Option RefState
  -- what can't be read
  pub unreadable : What → Bool
  -- how often writing has failed
  pub faults : ℕ

-- the state after an object is stored at an id
abbrev pub stored : ObjectId → Kind × List ℕ → StoreState → StoreState
stored id object state = record state { content = option_map (with_object id object) state.content }

-- the state after objects are stored in order, each under its id
abbrev pub all_stored : List (Kind × List ℕ) → StoreState → StoreState
all_stored objects state = record state { content = option_map (with_objects state.hash objects) state.content }

-- The new state is the one that is wanted, but for faults that came since.
pub record Becomes (wanted new : StoreState) : Type 0 where
  pub same : new ≡ record wanted { faults = new.faults }
  pub later : wanted.faults ≤ new.faults

-- A fault of a change is one of writing, and it was counted.
abbrev pub HasCause : StoreState → StoreState → What → Type 0
HasCause old new fault = (fault ≡ what.Write) × Rose old.faults new.faults

-- A fault of a read names the part that was asked for, and that part can't be read.
abbrev pub IsUnreadable : StoreState → What → What → Type 0
IsUnreadable state part fault = (fault ≡ part) × IsTrue (state.unreadable part)

-- a fact of the fault, where the error is one
abbrev pub OfFault : StoreError → (What → Type 0) → Type 0
OfFault store_error.NoMemory P = Unit {0}
OfFault (store_error.Fault fault) P = P fault

-- a fact of the fault, where there is one
abbrev pub IfFault : {T : Type 0} → Result T StoreError → (What → Type 0) → Type 0
IfFault r P = IfErr r (λ e. OfFault e P)
