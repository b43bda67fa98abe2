-- The names of commits.
use Rattle.std.specs.Prelude.{◌≡◌, ℕ, List, Option, Some, None, if◌then◌else◌}
use Rattle.std.specs.BTreeMap.{get, is_at}
use Rattle.gx_hash.specs.ObjectId.{id_cmp}
use Rattle.gx_hash.specs.declared.oid.ObjectId.{ObjectId}
use Rattle.gx_walk.specs.declared.describe.name_map.NameMap.{NameMap}

-- the name that a commit has
abbrev pub name_of : NameMap → ObjectId → Option (List ℕ)
name_of names id = get id_cmp names.names id

-- no commit has a name
abbrev pub IsNameless : NameMap → Type 0
IsNameless names = (id : ObjectId) → name_of names id ≡ None

-- the commit has this name, and all others have the names that they had
abbrev pub Names : NameMap → NameMap → ObjectId → List ℕ → Type 0
Names old new id name = (one : ObjectId)
    → name_of new one ≡ (if is_at (id_cmp id) one then Some name else name_of old one)
