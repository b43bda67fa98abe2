-- Listings of references.
use Rattle.std.specs.Prelude.{◌≡◌, ◌⊎◌, ◌&&◌, ◌||◌, ◌==◌, ℕ, Bool, true, false, not, List, [], map, filter, nat_eq, codes, bytes_eq, Option, Some, None, IfSome}
use Rattle.std.specs.List.{starts_with, AllByRecursion, list_all}
use Rattle.gx_rules.specs.Path.{components}
use Rattle.gx_store.specs.Kinds.{IsTargetOfKind}
use Rattle.gx_store.specs.Listing as listing
use Rattle.gx_store.specs.State.{RefState}
use Rattle.gx_store.specs.declared.error.StoreError.{StoreError}
use Rattle.gx_store.specs.declared.error.StoreError.TheVariants as failure
use Rattle.gx_store.specs.declared.error.What.{What}
use Rattle.gx_store.specs.declared.error.What.TheVariants as what
use Rattle.gx_refs.specs.Finding.{IsListed, IsListing, IsReference}
use Rattle.gx_refs.specs.Shown.{stored_name}
use Rattle.gx_refs.specs.declared.error.RefError.{RefError}
use Rattle.gx_refs.specs.declared.error.RefError.TheVariants as ref_error
use Rattle.gx_refs.specs.declared.reference.Reference.{Reference}
use Rattle.gix.specs.declared.reference.iter.error.IterError.{IterError}
use Rattle.gix.specs.declared.reference.iter.error.IterError.TheVariants.{RelativePath, Store, NoMemory}
use Rattle.gix.specs.declared.reference.iter.platform.Platform.{Platform}
use Rattle.gix.specs.declared.repository.Repository.{Repository}
use Rattle.gix.specs.Asking.{Query}
use Rattle.gix.specs.Space.{space_of}

-- the repository whose references are listed
abbrev pub repository_of : {S : Type 0} → Platform S → Repository S
repository_of platform = platform.repo.now

-- `.` and `..`, which lead to a directory and name none
abbrev pub is_step : List ℕ → Bool
is_step name = bytes_eq name (codes ".") || bytes_eq name (codes "..")

-- A prefix is a relative path where it begins with no slash and no component of it is `.` or `..`. (gix's
-- `references().prefixed()`, which takes a `RelativePath`)
abbrev pub is_relative_path : List ℕ → Bool
is_relative_path prefix = not (starts_with nat_eq prefix (codes "/"))
    && list_all (λ name. not (is_step name)) (components prefix)

-- the names of references
abbrev pub names_of : List Reference → List (List ℕ)
names_of list = map (λ (reference : Reference). reference.name) list

-- These are the references whose names begin with the prefix, in rising order of their names, each as it is shown.
-- (git-for-each-ref(1); gitnamespaces(7))
pub record AreReferences (space prefix : List ℕ) (refs : RefState) (list : List Reference) : Type 0 where
  pub names : IsListing space prefix refs.targets (names_of list)
  pub each : AllByRecursion (λ (reference : Reference). IsReference space (Some refs) reference.name reference) list

-- A listing reads which names there are, and the reference of each that is listed.
abbrev pub ReadsListing : List ℕ → List ℕ → Option RefState → What → Type 0
ReadsListing space prefix told part = (part ≡ what.Listing)
    ⊎ ((name : List ℕ) × (part ≡ what.Name (stored_name space name))
    × IfSome told (λ refs. IsListed space prefix refs.targets name))

-- what of an error is the store's
abbrev pub listing_part : IterError → Option StoreError
listing_part RelativePath = None
listing_part (Store fault) = Some (failure.Fault fault)
listing_part NoMemory = Some failure.NoMemory

-- The references whose names begin with a prefix are answered, in rising order of their names, where the prefix is a
-- relative path. Each id is of the repository's kind.
abbrev pub references_query : List ℕ → Query (List Reference) IterError
references_query prefix = record {
  is = λ settings view list. (is_relative_path prefix ≡ true)
      × AllByRecursion (λ (reference : Reference). IsTargetOfKind view.hash reference.target) list
      × listing.IsListing prefix (names_of list)
      × IfSome view.references (λ refs. AreReferences (space_of settings) prefix refs list);
  why = λ settings view e. (e ≡ RelativePath) × (is_relative_path prefix ≡ false);
  reads = λ settings view part. ReadsListing (space_of settings) prefix view.references part;
  fails = listing_part;
}

-- ---- pseudo references

-- a name of no directory, as HEAD (gitglossary(7), "pseudoref")
abbrev pub is_pseudo : List ℕ → Bool
is_pseudo name = list_all (λ byte. not (byte == 47)) name

-- These are the references whose names have no slash, in rising order of their names, each as it is shown.
pub record ArePseudo (space : List ℕ) (refs : RefState) (list : List Reference) : Type 0 where
  pub all : List (List ℕ)
  pub listing : IsListing space [] refs.targets all
  pub names : names_of list ≡ filter is_pseudo all
  pub each : AllByRecursion (λ (reference : Reference). IsReference space (Some refs) reference.name reference) list

-- All names are listed, and the references of those without a slash are read.
abbrev pub ReadsPseudo : List ℕ → Option RefState → What → Type 0
ReadsPseudo space told part = (part ≡ what.Listing)
    ⊎ ((name : List ℕ) × (part ≡ what.Name (stored_name space name)) × (is_pseudo name ≡ true)
    × IfSome told (λ refs. IsListed space [] refs.targets name))

-- The references without a slash in their names are answered. Each id is of the repository's kind.
abbrev pub pseudo_query : Query (List Reference) IterError
pseudo_query = record {
  is = λ settings view list. AllByRecursion (λ (reference : Reference). IsTargetOfKind view.hash reference.target) list
      × IfSome view.references (λ refs. ArePseudo (space_of settings) refs list);
  why = λ settings view e. ⊥;
  reads = λ settings view part. ReadsPseudo (space_of settings) view.references part;
  fails = listing_part;
}

-- ---- how errors are handed on

-- an error of the store
abbrev pub of_store : StoreError → IterError
of_store failure.NoMemory = NoMemory
of_store (failure.Fault fault) = Store fault

-- what of the refusal of a listing or a look-up is the store's; they are refused for nothing else
abbrev pub store_error : RefError → StoreError
store_error (ref_error.Store fault) = failure.Fault fault
store_error error = failure.NoMemory
