use Rattle.std.proofs.Common.{rules, ◌≡◌, ◌∙◌, ap, ◌+◌, ◌*◌, arith}
use Rattle.gx_store.proofs.SharedLemmas.{alike_start, alike_more, alike_apart, alike_all}
use Rattle.gx_store.proofs.sharing.shared_digits.Goals as goal

pub loop-at-init : goal.loop-at-init
loop-at-init c = alike_start _ _ _ _ c.as_bytes-a.ensures.bytes c.as_bytes-b.ensures.bytes

pub returns-then-a-at : goal.returns-then-a-at
returns-then-a-at c =
    ap (λ n. 2 * c.loop-at.at + n) c.from.ensures
    ∙ alike_apart c.as_bytes-a.result.now c.as_bytes-b.result.now c.loop-at.at _ (omega (arith, c.loop-at-test.true, c.min-most.ensures)) (omega (arith, c.loop-at-test.true, c.min-most.ensures)) (search rules) c.if-a-at.true c.loop-at.invariant

pub loop-at-preserved : goal.loop-at-preserved
loop-at-preserved c = alike_more _ _ c.loop-at.at _ (omega (arith, c.loop-at-test.true, c.min-most.ensures)) (omega (arith, c.loop-at-test.true, c.min-most.ensures)) c.if-a-at.false c.loop-at.invariant

pub returns : goal.returns
returns c = alike_all c.as_bytes-a.result.now c.as_bytes-b.result.now c.loop-at.at _ _ c.min-most.ensures c.loop-at-test.false c.loop-at.auto.at-end c.loop-at.invariant
