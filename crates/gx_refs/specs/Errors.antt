-- How refusals of a store and of a chain are handed on.
use Rattle.std.specs.Prelude.{ℕ, List}
use Rattle.gx_store.specs.declared.error.StoreError.{StoreError}
use Rattle.gx_store.specs.declared.error.StoreError.TheVariants as store_error
use Rattle.gx_refs.specs.declared.chain_error.ChainError.{ChainError}
use Rattle.gx_refs.specs.declared.chain_error.ChainError.TheVariants as chain_error
use Rattle.gx_refs.specs.declared.error.RefError.{RefError}
use Rattle.gx_refs.specs.declared.error.RefError.TheVariants as ref_error

-- a store's refusal, with what it failed at, of a name that has no chain
abbrev pub handed_on : StoreError → ChainError
handed_on store_error.NoMemory = chain_error.NoMemory
handed_on (store_error.Fault fault) = chain_error.Store fault

-- the same of any other call
abbrev pub of_store : StoreError → RefError
of_store store_error.NoMemory = ref_error.NoMemory
of_store (store_error.Fault fault) = ref_error.Store fault

-- a name that has no chain
abbrev pub of_chain : ChainError → RefError
of_chain (chain_error.Cycle name) = ref_error.Cycle name
of_chain (chain_error.DepthLimitExceeded name) = ref_error.DepthLimitExceeded name
of_chain (chain_error.Store fault) = ref_error.Store fault
of_chain chain_error.NoMemory = ref_error.NoMemory

-- the same refusal of a chain, with another name
abbrev pub with_given_name : RefError → List ℕ → RefError
with_given_name (ref_error.Cycle stored) name = ref_error.Cycle name
with_given_name (ref_error.DepthLimitExceeded stored) name = ref_error.DepthLimitExceeded name
with_given_name error name = error
