-- References that are found by a part of their names.
use Rattle.std.specs.Prelude.{◌≡◌, ℕ, List, Option, Some, None, IfSome}
use Rattle.gx_rules.specs.Name.{IsFullName}
use Rattle.gx_store.specs.Kinds.{IsTargetOfKind}
use Rattle.gx_store.specs.declared.error.StoreError.{StoreError}
use Rattle.gx_store.specs.declared.error.StoreError.TheVariants as failure
use Rattle.gx_store.specs.declared.error.What.{What}
use Rattle.gx_store.specs.declared.error.What.TheVariants as what
use Rattle.gx_refs.specs.Finding.{IsReached, Means}
use Rattle.gx_refs.specs.Shown.{stored_name}
use Rattle.gx_refs.specs.declared.reference.Reference.{Reference}
use Rattle.gix.specs.declared.reference.errors.RefFindError.{RefFindError}
use Rattle.gix.specs.declared.reference.errors.RefFindError.TheVariants.{NotFound, Store, NoMemory}
use Rattle.gix.specs.declared.settings.Settings.{Settings}
use Rattle.gix.specs.Asking.{Query}
use Rattle.gix.specs.Logs as logs
use Rattle.gix.specs.Space.{space_of}
use Rattle.gix.specs.View.{View}

-- The part of a name means this reference, whose id is of the repository's kind, or it means none: the first of its
-- candidates that is there is meant. (gitrevisions(7), "<refname>"; gitnamespaces(7))
pub record IsFoundBy (settings : Settings) (view : View) (name : List ℕ) (found : Option Reference) : Type 0 where
  pub meant : Means (space_of settings) view.references name found
  pub kind : IfSome found (λ (reference : Reference). IsTargetOfKind view.hash reference.target)

-- A candidate is read that is a full name, and that comes after others that mean nothing.
pub record ReadsCandidate (settings : Settings) (view : View) (name : List ℕ) (part : What) : Type 0 where
  pub candidate : List ℕ
  pub reached : IsReached (space_of settings) view.references name candidate
  pub full : IsFullName candidate
  pub read : part ≡ what.Name (stored_name (space_of settings) candidate)

-- The reference that the part of a name means is answered, or that it means none.
abbrev pub try_find_reference_query : List ℕ → Query (Option Reference) StoreError
try_find_reference_query name = record {
  is = λ settings view found. IsFoundBy settings view name found;
  why = λ settings view e. ⊥;
  reads = λ settings view part. ReadsCandidate settings view name part;
  fails = logs.of_store;
}

-- what of an error is the store's
abbrev pub find_part : RefFindError → Option StoreError
find_part (NotFound name) = None
find_part (Store fault) = Some (failure.Fault fault)
find_part NoMemory = Some failure.NoMemory

-- The same, but that a name which means no reference is refused.
abbrev pub find_reference_query : List ℕ → Query Reference RefFindError
find_reference_query name = record {
  is = λ settings view reference. IsFoundBy settings view name (Some reference);
  why = λ settings view e. (e ≡ NotFound name) × IsFoundBy settings view name None;
  reads = λ settings view part. ReadsCandidate settings view name part;
  fails = find_part;
}

-- how an error of the store is handed on
abbrev pub of_store : StoreError → RefFindError
of_store failure.NoMemory = NoMemory
of_store (failure.Fault fault) = Store fault
