-- How the refusal of a store is handed on.
use Rattle.gx_store.specs.declared.error.StoreError.{StoreError}
use Rattle.gx_store.specs.declared.error.StoreError.TheVariants as store_error
use Rattle.gx_edit.specs.declared.error.EditError.{EditError}
use Rattle.gx_edit.specs.declared.error.EditError.TheVariants.{Store, NoMemory}

-- a store's refusal is handed on as it is
abbrev pub handed_on : StoreError → EditError
handed_on store_error.NoMemory = NoMemory
handed_on (store_error.Fault fault) = Store fault
