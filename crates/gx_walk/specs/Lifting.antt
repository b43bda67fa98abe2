-- Errors of a store, as errors of a walk.
use Rattle.gx_store.specs.declared.error.StoreError.{StoreError}
use Rattle.gx_store.specs.declared.error.StoreError.TheVariants as store_error
use Rattle.gx_walk.specs.declared.error.WalkError.{WalkError}
use Rattle.gx_walk.specs.declared.error.WalkError.TheVariants.{Store, NoMemory}

-- the same error of a walk
abbrev pub lifted_store : StoreError → WalkError
lifted_store store_error.NoMemory = NoMemory
lifted_store (store_error.Fault what) = Store what
