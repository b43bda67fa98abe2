use Rattle.std.proofs.Common.{rules, arith, sym, subst}
use Rattle.std.proofs.lemmas.Grind.{common_steps}
use Rattle.std.specs.List.{AllByRecursion}
use Rattle.gx_hash.specs.HashKind.{IsOfKind}
use Rattle.gx_hash.specs.IdDigits.{IsHexId}
use Rattle.gx_object.proofs.CommitParts.{all_push}
use Rattle.gx_object.proofs.IdDigits.{each_named}
use Rattle.gx_object.proofs.commit.owned.own_ids.Goals as goal

pub from_digits-requires : goal.from_digits-requires
from_digits-requires c = (c.requires.0, subst (IsHexId c.requires.0) (sym c.as_bytes.ensures) (each_named c.requires.0 c.args.digits.now c.loop-text.text-index _ (Prim.search rules) c.requires.1))

pub loop-text-preserved : goal.loop-text-preserved
loop-text-preserved c = (
  grind (arith, common_steps, c.loop-text.invariant.0, c.in_ok-push.ensures.items, c.from_digits.ensures.digits, c.as_bytes.ensures),
  λ hash each.
      let text = subst (IsHexId hash) (sym c.as_bytes.ensures) (each_named hash c.args.digits.now c.loop-text.text-index _ (Prim.search rules) each) in
      subst (AllByRecursion (IsOfKind hash)) (sym c.in_ok-push.ensures.items) (all_push (IsOfKind hash) c.loop-text.ids.items c.from_digits.result (c.loop-text.invariant.1 hash each) (c.from_digits.ensures.kind hash text)),
)

pub returns-clause-kind : goal.returns-clause-kind
returns-clause-kind c = λ hash each. subst (AllByRecursion (IsOfKind hash)) (sym c.from_vec.ensures) (c.loop-text.invariant.1 hash each)
