-- The state of a repository, and what a store tells of it.
use Rattle.std.specs.Prelude.{Option, Some}
use Rattle.gx_hash.specs.declared.kind.HashKind.{HashKind}
use Rattle.gx_store.specs.Content.{Content}
use Rattle.gx_store.specs.State.{RefState, StoreState}

-- The kind of every id, and the objects and the references, each where they are told.
pub record View : Type 0 where
  pub hash : HashKind
  pub content : Option Content
  pub references : Option RefState

-- what a store shows, whose state this is
abbrev pub view_of : StoreState → View
view_of store = record { hash = store.hash; content = store.content; references = store.references }

-- A state of the machine: the kind of every id, objects, and references with their logs. (gitrepository-layout)
pub record State : Type 0 where
  pub hash : HashKind
  pub content : Content
  pub references : RefState

-- the state, told whole
abbrev pub whole : State → View
whole state = record { hash = state.hash; content = Some state.content; references = Some state.references }
