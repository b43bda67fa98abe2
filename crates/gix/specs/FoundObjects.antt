-- Objects that are looked up by their ids.
use Rattle.std.specs.Prelude.{◌≡◌, ◌≢◌, ℕ, List, Option, Some, None, IfSome, MatchOption}
use Rattle.gx_hash.specs.declared.oid.ObjectId.{ObjectId}
use Rattle.gx_object.specs.declared.kind.Kind.{Kind}
use Rattle.gx_store.specs.Content.{lookup}
use Rattle.gx_store.specs.declared.error.StoreError.{StoreError}
use Rattle.gx_store.specs.declared.error.StoreError.TheVariants as failure
use Rattle.gx_store.specs.declared.error.What.TheVariants as what
use Rattle.gix.specs.Asking.{Query}
use Rattle.gix.specs.AttachedObjects.{Attached, of_object}
use Rattle.gix.specs.Finds.{find_part, try_find_part}
use Rattle.gix.specs.View.{View}
use Rattle.gix.specs.declared.object.find_as.FindAsError.{FindAsError}
use Rattle.gix.specs.declared.object.find_as.FindAsError.TheVariants as find_as
use Rattle.gix.specs.declared.object.find.FindError.{FindError}
use Rattle.gix.specs.declared.object.find.FindError.TheVariants as find
use Rattle.gix.specs.declared.object.conversion.KindError.{KindError}
use Rattle.gix.specs.declared.object.find.TryFindError.{TryFindError}
use Rattle.gix.specs.declared.repository.Repository.{Repository}
use Rattle.gix.specs.declared.types.Object.{Object}
use Rattle.gix.specs.declared.types.ObjectDetached.{ObjectDetached}

-- This object is stored at the id. The empty tree is, whether or not it was written. (Git, "Git Internals - Git
-- Objects"; object-file.c, "cached objects")
abbrev pub IsStoredAt : View → ObjectId → ObjectDetached → Type 0
IsStoredAt view id object = (object.id ≡ id)
    × IfSome view.content (λ content. lookup content id ≡ Some (object.kind, object.bytes))

-- It is, and the object is of this repository.
abbrev pub IsFound : {S : Type 0} → Repository S → View → ObjectId → Attached S → Type 0
IsFound repository view id found = (found.repository ≡ repository) × IsStoredAt view id found.object

-- nothing is stored at the id
abbrev pub IsMissing : View → ObjectId → Type 0
IsMissing view id = IfSome view.content (λ content. lookup content id ≡ None)

-- an object of the kind is stored at the id
abbrev pub IsKindAt : View → ObjectId → Kind → Type 0
IsKindAt view id kind = IfSome view.content (λ content. (bytes : List ℕ) × (lookup content id ≡ Some (kind, bytes)))

-- what of an error is the store's
abbrev pub find_as_part : FindAsError → Option StoreError
find_as_part (find_as.NotFound id) = None
find_as_part (find_as.ObjectKind id expected actual) = None
find_as_part (find_as.Store fault) = Some (failure.Fault fault)
find_as_part find_as.NoMemory = Some failure.NoMemory

-- The object at an id is answered, if it is stored. It is never refused. (git-cat-file(1), "--batch")
abbrev pub try_find_query : ObjectId → Query (Option ObjectDetached) TryFindError
try_find_query id = record {
  is = λ settings view found. MatchOption found (IsMissing view id) (IsStoredAt view id);
  why = λ settings view e. ⊥;
  reads = λ settings view part. part ≡ what.Object id;
  fails = try_find_part;
}

-- the same with the repository
abbrev pub try_find_object_query : {S : Type 0} → Repository S → ObjectId → Query (Option (Object S)) TryFindError
try_find_object_query repository id = record {
  is = λ settings view found.
      MatchOption found (IsMissing view id) (λ object. IsFound repository view id (of_object object));
  why = λ settings view e. ⊥;
  reads = λ settings view part. part ≡ what.Object id;
  fails = try_find_part;
}

-- The object at an id is answered, and refused where none is stored. (git-cat-file(1), "<type>")
abbrev pub find_query : {S : Type 0} → Repository S → ObjectId → Query (Object S) FindError
find_query repository id = record {
  is = λ settings view object. IsFound repository view id (of_object object);
  why = λ settings view e. (e ≡ find.NotFound id) × IsMissing view id;
  reads = λ settings view part. part ≡ what.Object id;
  fails = find_part;
}

-- why no object of the kind is found
abbrev pub WhyNotFound : Kind → ObjectId → View → FindAsError → Type 0
WhyNotFound expected id view (find_as.NotFound named) = (named ≡ id) × IsMissing view id
WhyNotFound expected id view (find_as.ObjectKind named asked actual) =
    (named ≡ id) × (asked ≡ expected) × (actual ≢ expected) × IsKindAt view id actual
WhyNotFound expected id view _ = ⊥

-- The object of a kind at an id is answered, and refused where none is stored or where it is of another kind.
-- (git-cat-file(1), "<type>")
abbrev pub find_as_query : {S Found : Type 0} → (Found → Attached S) → Kind → Repository S → ObjectId
    → Query Found FindAsError
find_as_query shown expected repository id = record {
  is = λ settings view found. IsFound repository view id (shown found);
  why = λ settings view e. WhyNotFound expected id view e;
  reads = λ settings view part. part ≡ what.Object id;
  fails = find_as_part;
}

-- ---- how errors are handed on

-- an object that is not found
abbrev pub find_as_error : FindError → FindAsError
find_as_error (find.NotFound id) = find_as.NotFound id
find_as_error (find.Store fault) = find_as.Store fault
find_as_error find.NoMemory = find_as.NoMemory

-- an object of another kind
abbrev pub of_other_kind : KindError → FindAsError
of_other_kind e = find_as.ObjectKind e.id e.expected e.actual
