use Rattle.std.proofs.Common.{arith, ◌∙◌, sym, ap, length}
use Rattle.gx_refs.specs.Chain.{is_among}
use Rattle.gx_refs.proofs.ChainLemmas.{followed_more}
use Rattle.gx_refs.proofs.resolving.resolve.Goals as goal

pub loop-current-preserved : goal.loop-current-preserved
loop-current-preserved g c =
    let next = c.in-Some-Symbolic.next in
    let found = rw c.in-Some-Symbolic.field-0-is at (rw c.in-Some-Symbolic.is at c.in_ok-target.ensures.found) in
    let items = c.in_ok-push.ensures.items in
    let listed = c.deref.ensures.value ∙ items in
    rw items (followed_more _ _ _ _ next c.loop-current.invariant found
    (ap (is_among next) (sym listed) ∙ sym c.if-contains.ensures.value)
    (omega (arith, ap length items, c.push.ensures.len)))
