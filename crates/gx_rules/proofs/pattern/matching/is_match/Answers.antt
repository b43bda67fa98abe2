use Rattle.std.proofs.Common.{length, arith}
use Rattle.gx_rules.proofs.pattern.matching.is_match.Goals as goal

pub loop-next-preserved : goal.loop-next-preserved
loop-next-preserved g c =
    let kept = c.loop-next.invariant in
    let goes = c.in-Next.ensures.gives in
    record {
      sound = goes.sound;
      onward = λ match. goes.onward (kept.onward match);
      back = λ lives. kept.back (goes.back lives);
      within = (c.in-Next.ensures.spends (length c.args.pattern.now) kept.within).0;
      ahead = (c.in-Next.ensures.passes kept.ahead).0;
      passed = let passes = (c.in-Next.ensures.passes kept.ahead).1 in let counts = c.in-Next.ensures.counts in omega (arith, kept.passed);
      counts = let counts = c.in-Next.ensures.counts in omega (arith, kept.counts);
      cost = let spent = (c.in-Next.ensures.spends (length c.args.pattern.now) kept.within).1 in omega (arith, kept.cost);
    }
