-- Equal ids are one.
use Rattle.std.proofs.Common.{◌≡◌, ◌∙◌, sym, refl, true}
use Rattle.std.specs.declared.cmp.Ordering.{Ordering}
use Rattle.std.specs.declared.cmp.Ordering.TheVariants.{Less, Equal, Greater}
use Rattle.std.specs.Ordering.{eq_by_cmp, is_eq}
use Rattle.std.specs.Cmp.{eq_by_cmp_equiv}
use Rattle.gx_hash.specs.ObjectId.{id_cmp}
use Rattle.gx_hash.specs.ObjectIds.{id_eq}
use Rattle.gx_hash.specs.declared.oid.ObjectId.{ObjectId}
use Rattle.gx_hash.specs.Laws.IdCmp.{id_cmp_total, id_cmp-eq}
use Rattle.gx_hash.specs.Laws.IdOrder.{id_cmp-IsAntisymmetric}

-- ids are equal exactly where the order ties them
pub ids_tied : (a b : ObjectId) → id_eq a b ≡ eq_by_cmp id_cmp a b
ids_tied = id_cmp-eq

tied : (r : Ordering) → is_eq r ≡ true → r ≡ Equal
tied Less e = cc
tied Equal e = refl
tied Greater e = cc

-- equal ids are one
pub same_id : (a b : ObjectId) → id_eq a b ≡ true → a ≡ b
same_id a b e = id_cmp-IsAntisymmetric a b (tied _ (sym (ids_tied a b) ∙ e))

-- an id equals itself
pub own_id : (a : ObjectId) → id_eq a a ≡ true
own_id a = ids_tied a a ∙ (eq_by_cmp_equiv id_cmp_total).refl a
