-- What a repository holds, and a state of the repository machine.
use Rattle.std.specs.Prelude.{Option, Some, None}
use Rattle.gx_hash.specs.declared.kind.HashKind.{HashKind}
use Rattle.gx_store.specs.Content.{Content}
use Rattle.gx_store.specs.State.{RefState, StoreState}
use Rattle.gix.specs.declared.settings.Settings.{Settings}
use Rattle.gix.specs.View.{State}

-- What a repository holds at a moment: its settings, and the state of its store. Calls change both.
pub record Held : Type 0 where
  pub settings : Settings
  pub store : StoreState

-- A state of the machine: the settings, and all objects, references and logs.
pub record Whole : Type 0 where
  pub settings : Settings
  pub state : State

-- the state of these parts, where both are told
abbrev pub state_told : HashKind → Option Content → Option RefState → Option State
state_told hash None references = None
state_told hash (Some content) None = None
state_told hash (Some content) (Some references) =
    Some (record { hash = hash; content = content; references = references })

-- the state that a store tells, where it tells both its objects and its references
abbrev pub state_of : StoreState → Option State
state_of store = state_told store.hash store.content store.references

-- two states are so related, or neither is told
abbrev pub BothTold : (State → State → Type 0) → Option State → Option State → Type 0
BothTold R None None = Unit {0}
BothTold R None (Some new) = ⊥
BothTold R (Some old) None = ⊥
BothTold R (Some old) (Some new) = R old new

-- A store tells its state before and after, and these are so related; or it tells it at neither time.
abbrev pub WhereTold : (State → State → Type 0) → StoreState → StoreState → Type 0
WhereTold R old new = BothTold R (state_of old) (state_of new)

-- the same of states with their settings
abbrev pub HeldTold : (Whole → Whole → Type 0) → Held → Held → Type 0
HeldTold R old new = WhereTold (λ before after. R (record { settings = old.settings; state = before })
    (record { settings = new.settings; state = after })) old.store new.store
