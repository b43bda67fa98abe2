-- References with the repository that they were found in.
use Rattle.std.specs.Prelude.{Option, Some, None, Result, Ok, Err}
use Rattle.gx_hash.specs.declared.oid.ObjectId.{ObjectId}
use Rattle.gx_store.specs.declared.target.Target.{Target}
use Rattle.gx_store.specs.declared.target.Target.TheVariants as target
use Rattle.gx_refs.specs.declared.reference.Reference.{Reference as Found}
use Rattle.gix.specs.declared.reference.attached.Reference.{Reference}
use Rattle.gix.specs.declared.repository.Repository.{Repository}

-- the reference as it was found
abbrev pub found_of : {S : Type 0} → Reference S → Found
found_of reference = reference.inner

-- its repository
abbrev pub home_of : {S : Type 0} → Reference S → Repository S
home_of reference = reference.repo.now

-- the id that a target is, if it is one
abbrev pub id_of : Target → Option ObjectId
id_of (target.Object id) = Some id
id_of (target.Symbolic name) = None

-- what was answered, without the repository
abbrev pub detached : {S Error : Type 0} → Result (Reference S) Error → Result Found Error
detached (Ok reference) = Ok (found_of reference)
detached (Err e) = Err e

-- the same of what may be absent
abbrev pub detached_if_found : {S Error : Type 0} → Result (Option (Reference S)) Error → Result (Option Found) Error
detached_if_found (Ok None) = Ok None
detached_if_found (Ok (Some reference)) = Ok (Some (found_of reference))
detached_if_found (Err e) = Err e
