use Rattle.std.proofs.Common.{arith, ap}
use Rattle.gx_script.specs.Reading.{Reading}
use Rattle.gx_script.proofs.ReaderLemmas.{overruns_now}
use Rattle.gx_script.proofs.feed.Feed.fill.Goals as goal

pub returns-then-branch-clause-filled : goal.returns-then-branch-clause-filled
returns-then-branch-clause-filled g c = overruns_now _ _ _ (omega (arith, ap (λ (r : Reading). r.room) c.self.view_is)) (rw c.if-branch.true at c.in_ok-read_one.ensures.one)
