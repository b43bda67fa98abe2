use Rattle.std.proofs.Common.{refl}
use Rattle.gx_script.proofs.ReaderLemmas.{line_ends}
use Rattle.gx_script.proofs.feed.Feed.line.Goals as goal

pub returns-in-None-clause-found : goal.returns-in-None-clause-found
returns-in-None-clause-found g c =
    let found = rw c.in-None.is at c.in_ok-size.ensures.found in
    rw c.malformed.ensures (line_ends _ _ _ _ _ _ _ found.0 found.1 found.2 refl)
