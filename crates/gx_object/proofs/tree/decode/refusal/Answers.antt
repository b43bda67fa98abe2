use Rattle.std.proofs.Common.{◌≡◌, ◌<◌, length, arith}
use Rattle.gx_object.proofs.TreeReading.{passes_none, passes_more, passes_all, passes_bad}
use Rattle.gx_object.proofs.tree.decode.refusal.Goals as goal

pub loop-rest-init : goal.loop-rest-init
loop-rest-init c = passes_none c.args.hash c.args.bytes.now

pub loop-rest-preserved : goal.loop-rest-preserved
loop-rest-preserved c = passes_more _ _ _ c.in-Some.behind.now _ c.loop-rest.invariant c.in-Some.ensures

pub returns-in_default : goal.returns-in_default
returns-in_default c =
    let some : 0 < length c.loop-rest.rest.now = grind (arith, c.loop-rest-test.ensures, c.loop-rest-test.true) in
    passes_bad _ _ _ c.loop-rest.invariant some c.in_default.ensures

pub returns : goal.returns
returns c =
    let none : length c.loop-rest.rest.now ≡ 0 = grind (arith, c.loop-rest-test.ensures, c.loop-rest-test.false) in
    passes_all _ _ _ c.loop-rest.invariant none
