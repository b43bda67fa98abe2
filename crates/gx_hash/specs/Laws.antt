-- What holds of ids, for proofs above to cite. Each is also the contract of a function of the module `laws`; the proofs
-- are in the files below.
pub mod Digests
pub mod Digits
pub mod IdCmp
pub mod IdEquality
pub mod IdOrder
use Rattle.std.specs.Prelude.{◌≡◌, ℕ, true, List, length, Some, Ok}
use Rattle.std.specs.Cmp.{IsTotalOrder}
use Rattle.std.specs.FinMap.{IsAntisymmetric}
use Rattle.std.specs.Ordering.{eq_by_cmp}
use Rattle.hex.specs.Hex.{IsBytes}
use Rattle.gx_hash.specs.declared.kind.HashKind.{HashKind}
use Rattle.gx_hash.specs.declared.oid.ObjectId.{ObjectId}
use Rattle.gx_hash.specs.HashKind.{kind_of, len_in_bytes}
use Rattle.gx_hash.specs.IdDigits.{IsHexId, IdOfDigits}
use Rattle.gx_hash.specs.ObjectId.{object_id, bytes_of, hex_of, id_cmp, id_from_bytes, id_from_hex}
use Rattle.gx_hash.specs.ObjectIds.{id_eq, derived_cmp}
use Rattle.gx_hash.specs.Laws.IdCmp as cmp
use Rattle.gx_hash.specs.Laws.IdOrder as ids
use Rattle.gx_hash.specs.Laws.IdEquality as equality
use Rattle.gx_hash.specs.Laws.Digests as digests
use Rattle.gx_hash.specs.Laws.Digits as digits

-- the order of ids is total
pub id_cmp_total : IsTotalOrder id_cmp
id_cmp_total = cmp.id_cmp_total

-- and has no two ids as equal
pub id_cmp-IsAntisymmetric : IsAntisymmetric id_cmp
id_cmp-IsAntisymmetric = ids.id_cmp-IsAntisymmetric

-- `cmp` answers that order
pub derived_cmp-id_cmp : derived_cmp ≡ id_cmp
derived_cmp-id_cmp = ids.derived_cmp-id_cmp

-- `==` holds where that order has two ids as equal
pub id_eq-id_cmp : (a b : ObjectId) → id_eq a b ≡ eq_by_cmp id_cmp a b
id_eq-id_cmp = equality.ids_tied

-- equal ids are one
pub same_id : (a b : ObjectId) → id_eq a b ≡ true → a ≡ b
same_id = equality.same_id

-- an id equals itself
pub own_id : (id : ObjectId) → id_eq id id ≡ true
own_id = equality.own_id

-- the digits of an id read back as it
pub id_from_hex-hex_of : (id : ObjectId) → length (bytes_of id) ≡ len_in_bytes (kind_of id) → IsBytes (bytes_of id)
    → id_from_hex (hex_of id) ≡ Ok id
id_from_hex-hex_of = ids.id_from_hex-hex_of

-- an object's id has the bytes of an id of its kind
pub object_id_is_whole : (hash : HashKind) (kind_name bytes : List ℕ)
    → id_from_bytes hash (bytes_of (object_id hash kind_name bytes)) ≡ Some (object_id hash kind_name bytes)
object_id_is_whole = digests.object_id_is_whole

-- its digits read back as it
pub object_id_digits : (hash : HashKind) (kind_name bytes : List ℕ)
    → id_from_hex (hex_of (object_id hash kind_name bytes)) ≡ Ok (object_id hash kind_name bytes)
object_id_digits = digests.object_id_digits

-- and it is of that kind
pub object_id_kind : (hash : HashKind) (kind_name bytes : List ℕ) → kind_of (object_id hash kind_name bytes) ≡ hash
object_id_kind = digests.object_id_kind

-- the digits of an object's id are those of an id of its kind
pub computed_digits : (hash : HashKind) (kind_name bytes : List ℕ)
    → IsHexId hash (hex_of (object_id hash kind_name bytes))
computed_digits = digits.computed_digits

-- each text of such digits is that of an id
pub id_of_digits : (hash : HashKind) (text : List ℕ) → IsHexId hash text → IdOfDigits hash text
id_of_digits = digits.named
