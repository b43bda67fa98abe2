use Rattle.std.proofs.Common.{refl}
use Rattle.gx_script.proofs.ReaderLemmas.{line_wrong, gives_line}
use Rattle.gx_script.proofs.lines.who_line.Goals as goal

pub returns-in_default-clause-line : goal.returns-in_default-clause-line
returns-in_default-clause-line g c =
    let found = c.in_ok-size.ensures.found in
    let no = rw (c.in_default.is, c.held.ensures) at c.in_ok-who.ensures in
    rw c.malformed.ensures (line_wrong _ _ _ _ _ _ c.in_ok-size.size _ found.0 found.1 found.2 (λ who says. no who says.0 says.1) refl)

pub returns-clause-line : goal.returns-clause-line
returns-clause-line g c =
    let found = c.in_ok-size.ensures.found in
    gives_line _ _ _ _ _ _ c.in_ok-size.size found.0 found.1 found.2 c.give.ensures (rw (c.in-Some.is, c.held.ensures) at c.in_ok-who.ensures)
