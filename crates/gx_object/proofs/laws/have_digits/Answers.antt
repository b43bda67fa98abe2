use Rattle.std.proofs.Common.{rules, subst}
use Rattle.std.specs.List.{AllByRecursion}
use Rattle.std.proofs.lemmas.List.{take_all}
use Rattle.gx_hash.specs.IdDigits.{HasOwnDigits}
use Rattle.gx_object.proofs.ReadBack.{own_next}
use Rattle.gx_object.proofs.laws.have_digits.Goals as goal

pub loop-id-preserved : goal.loop-id-preserved
loop-id-preserved c = own_next c.args.ids.now c.loop-id.id-index _ (Prim.search rules) c.loop-id.invariant c.id_has_digits.ensures.held

pub returns : goal.returns
returns c = subst (AllByRecursion HasOwnDigits) (take_all c.loop-id.id-index c.args.ids.now (Prim.search rules)) c.loop-id.invariant
