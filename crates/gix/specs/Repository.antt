-- What a repository shows of itself.
use Rattle.gx_store.specs.State.{StoreState}
use Rattle.gix.specs.declared.repository.Repository.{Repository}
use Rattle.gix.specs.declared.settings.Settings.{Settings}
use Rattle.gix.specs.Held.{Held}

-- the store that it is over
abbrev pub store_of : {S : Type 0} → Repository S → S
store_of repository = repository.store

-- its settings
abbrev pub settings_of : {S : Type 0} → Repository S → Settings
settings_of repository = repository.settings

-- what it holds, where this is the state of its store
abbrev pub held_by : {S : Type 0} → (S → StoreState) → Repository S → Held
held_by state repository = record { settings = settings_of repository; store = state (store_of repository) }
