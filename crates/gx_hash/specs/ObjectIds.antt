-- Ids that are compared, and sets of ids.
use Rattle.std.specs.Prelude.{Bool, List}
use Rattle.std.specs.List.{list_any}
use Rattle.std.specs.declared.cmp.Ordering.{Ordering}
use Rattle.gx_hash.specs.declared.oid.ObjectId.{ObjectId}
use Rattle.gx_hash.specs.contracts.oid.ObjectIdPartialEq.TheImpl as object_id_eq
use Rattle.gx_hash.specs.contracts.oid.ObjectIdOrd.TheImpl as object_id_ord

-- whether two ids are one: what `==` answers
abbrev pub id_eq : ObjectId → ObjectId → Bool
id_eq = (object_id_eq.ghosts).eq

-- how two ids are ordered: what `cmp` answers
abbrev pub derived_cmp : ObjectId → ObjectId → Ordering
derived_cmp = (object_id_ord.ghosts).cmp

-- whether the id is one of these
abbrev pub has_id : List ObjectId → ObjectId → Bool
has_id ids id = list_any (λ one. id_eq one id) ids
