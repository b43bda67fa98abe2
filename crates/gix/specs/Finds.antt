-- What is known of objects without their bytes.
use Rattle.std.specs.Prelude.{◌≡◌, Bool, Option, Some, None, option_map, is_some, IfSome}
use Rattle.gx_hash.specs.declared.oid.ObjectId.{ObjectId}
use Rattle.gx_store.specs.Content.{Content, lookup}
use Rattle.gx_store.specs.Headers.{header_of}
use Rattle.gx_store.specs.declared.error.StoreError.{StoreError}
use Rattle.gx_store.specs.declared.error.StoreError.TheVariants as failure
use Rattle.gx_store.specs.declared.error.What.TheVariants as what
use Rattle.gx_store.specs.declared.traits.Header.{Header}
use Rattle.gix.specs.declared.object.find.FindError.{FindError}
use Rattle.gix.specs.declared.object.find.FindError.TheVariants as find
use Rattle.gix.specs.declared.object.find.TryFindError.{TryFindError}
use Rattle.gix.specs.declared.object.find.TryFindError.TheVariants as try
use Rattle.gix.specs.Asking.{Query}

-- how an error of the store is told where it is asked whether an object is stored
abbrev pub not_known : StoreError → TryFindError
not_known failure.NoMemory = try.NoMemory
not_known (failure.Fault fault) = try.Store fault

-- the same where an object is to be found
abbrev pub not_found : StoreError → FindError
not_found failure.NoMemory = find.NoMemory
not_found (failure.Fault fault) = find.Store fault

-- what of these errors is the store's
abbrev pub try_find_part : TryFindError → Option StoreError
try_find_part (try.Store fault) = Some (failure.Fault fault)
try_find_part try.NoMemory = Some failure.NoMemory

-- so of those where an object is to be found
abbrev pub find_part : FindError → Option StoreError
find_part (find.NotFound id) = None
find_part (find.Store fault) = Some (failure.Fault fault)
find_part find.NoMemory = Some failure.NoMemory

-- the header of the object at an id, where one is stored
abbrev pub header_at : Content → ObjectId → Option Header
header_at content id = option_map header_of (lookup content id)

-- The header of the object at an id is answered, and none where no object is stored there. That object alone is read.
-- (git-cat-file(1), "-t" and "-s")
abbrev pub try_header_query : ObjectId → Query (Option Header) TryFindError
try_header_query id = record {
  is = λ settings view found. IfSome view.content (λ content. found ≡ header_at content id);
  why = λ settings view e. ⊥;
  reads = λ settings view part. part ≡ what.Object id;
  fails = try_find_part;
}

-- The same of an object that has to be stored: it is refused exactly where it is not.
abbrev pub header_query : ObjectId → Query Header FindError
header_query id = record {
  is = λ settings view header. IfSome view.content (λ content. header_at content id ≡ Some header);
  why = λ settings view e. (e ≡ find.NotFound id) × IfSome view.content (λ content. lookup content id ≡ None);
  reads = λ settings view part. part ≡ what.Object id;
  fails = find_part;
}

-- It is answered whether an object is stored at the id. (git-cat-file(1), "-e")
abbrev pub exists_query : ObjectId → Query Bool TryFindError
exists_query id = record {
  is = λ settings view found. IfSome view.content (λ content. found ≡ is_some (lookup content id));
  why = λ settings view e. ⊥;
  reads = λ settings view part. part ≡ what.Object id;
  fails = try_find_part;
}
