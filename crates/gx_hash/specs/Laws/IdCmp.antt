-- What the order of ids owes as the order of a type: it is total, and ties the ids that are equal.
use Rattle.std.specs.Prelude.{◌≡◌, Some}
use Rattle.std.proofs.Common.{refl}
use Rattle.std.specs.Ordering.{eq_by_cmp, as_partial_cmp}
use Rattle.std.specs.Cmp.{IsTotalOrder, IsPartialOrder, nat_cmp_total, partial_order_from_agreeing_total}
use Rattle.std.specs.Cmp.Lexicographic.{nat_list_cmp_total, texts_ties}
use Rattle.std.proofs.lemmas.Cmp.{on_total, then_total}
use Rattle.gx_hash.specs.declared.oid.ObjectId.{ObjectId}
use Rattle.gx_hash.specs.declared.oid.ObjectId.TheVariants.{Sha1, Sha256}
use Rattle.gx_hash.specs.contracts.oid.ObjectIdPartialEq.TheImpl as object_id_eq
use Rattle.gx_hash.specs.ObjectId.{id_cmp, kind_rank, bytes_of}

pub id_cmp_total : IsTotalOrder id_cmp
id_cmp_total = then_total (on_total kind_rank nat_cmp_total) (on_total bytes_of nat_list_cmp_total)

pub id_cmp-eq : (a b : ObjectId) → (object_id_eq.ghosts).eq a b ≡ eq_by_cmp id_cmp a b
id_cmp-eq (Sha1 a) (Sha1 b) = texts_ties a b
id_cmp-eq (Sha1 a) (Sha256 b) = refl
id_cmp-eq (Sha256 a) (Sha1 b) = refl
id_cmp-eq (Sha256 a) (Sha256 b) = texts_ties a b

pub id_cmp-partial : (a b : ObjectId) → as_partial_cmp id_cmp a b ≡ Some (id_cmp a b)
id_cmp-partial a b = refl

pub id_partial_order : IsPartialOrder (object_id_eq.ghosts).eq (as_partial_cmp id_cmp)
id_partial_order = partial_order_from_agreeing_total id_cmp id_cmp_total id_cmp-partial id_cmp-eq
