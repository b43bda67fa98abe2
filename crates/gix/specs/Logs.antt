-- Logs of references, which are read.
use Rattle.std.specs.Prelude.{◌≡◌, ℕ, Bool, List, reverse, Option, Some, IfSome, option_map}
use Rattle.std.specs.FinMap.{get, contains_key}
use Rattle.gx_store.specs.declared.error.StoreError.{StoreError}
use Rattle.gx_store.specs.declared.error.What.TheVariants as what
use Rattle.gx_store.specs.declared.log_line.LogLine.{LogLine}
use Rattle.gx_store.specs.Kinds.{AreLinesOfKind}
use Rattle.gx_refs.specs.Shown.{stored_name}
use Rattle.gix.specs.declared.reference.log.Platform.{Platform}
use Rattle.gix.specs.declared.repository.Repository.{Repository}
use Rattle.gix.specs.Asking.{Query}
use Rattle.gix.specs.Space.{space_of}

-- an error of a call that is never refused is the store's
abbrev pub of_store : StoreError → Option StoreError
of_store e = Some e

-- The log of a name is answered, whether its reference is there or not. Each id in it is of the repository's kind. Its
-- name alone is read. (git-reflog(1), "show")
abbrev pub log_query : List ℕ → Query (Option (List LogLine)) StoreError
log_query name = record {
  is = λ settings view lines. IfSome lines (AreLinesOfKind view.hash)
      × IfSome view.references (λ refs. lines ≡ get refs.logs (stored_name (space_of settings) name));
  why = λ settings view e. ⊥;
  reads = λ settings view part. part ≡ what.Name (stored_name (space_of settings) name);
  fails = of_store;
}

-- The same, the newest line first.
abbrev pub newest_first_query : List ℕ → Query (Option (List LogLine)) StoreError
newest_first_query name = record {
  is = λ settings view lines. IfSome lines (AreLinesOfKind view.hash)
      × IfSome view.references (λ refs.
      lines ≡ option_map reverse (get refs.logs (stored_name (space_of settings) name)));
  why = λ settings view e. ⊥;
  reads = λ settings view part. part ≡ what.Name (stored_name (space_of settings) name);
  fails = of_store;
}

-- Whether a name has a log, with its reference or without. (git-reflog(1), "exists")
abbrev pub log_exists_query : List ℕ → Query Bool StoreError
log_exists_query name = record {
  is = λ settings view there.
      IfSome view.references (λ refs. there ≡ contains_key refs.logs (stored_name (space_of settings) name));
  why = λ settings view e. ⊥;
  reads = λ settings view part. part ≡ what.Name (stored_name (space_of settings) name);
  fails = of_store;
}

-- ---- a log that is to be read

-- the repository
abbrev pub log_home_of : {S : Type 0} → Platform S → Repository S
log_home_of platform = platform.repo.now

-- the name of its reference
abbrev pub log_name_of : {S : Type 0} → Platform S → List ℕ
log_name_of platform = platform.name.now
