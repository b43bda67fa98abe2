use Rattle.std.proofs.Common.{arith}
use Rattle.std.proofs.lemmas.List.{take_rest}
use Rattle.gx_tool.proofs.OutsideLemmas.{up_to_more}
use Rattle.gx_tool.proofs.running.write_all.Goals as goal

pub loop-rest-preserved : goal.loop-rest-preserved
loop-rest-preserved g c = record {
  written = up_to_more _ _ _ _ c.loop-rest.rest.now _ c.in_ok-count.count (take_rest c.loop-rest.rest.now c.in_ok-count.count) c.loop-rest.invariant.written c.in_ok-count.ensures.written;
  later = omega (arith, c.in_ok-count.ensures.later);
}
